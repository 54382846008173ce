-- The documents that a client has open.
use Rattle.std.specs.Prelude.{◌≡◌, ℕ, List, String, string_bytes, string_eq}
use Rattle.std.specs.declared.alloc.Global.{Global}
use Rattle.indexmap.specs.IndexMap.{insert_entry}
use Rattle.sfc_lsp.specs.declared.documents.Document.{Document}

-- names with their documents
abbrev pub Open : Type 0
Open = List (String Global × Document)

-- the document is kept under this name, in place of one that was there; the others stay as they were
abbrev pub Keeps : List ℕ → Document → Open → Open → Type 0
Keeps uri document before behind =
    (name : String Global) × (string_bytes name ≡ uri) × (behind ≡ insert_entry string_eq before name document)
