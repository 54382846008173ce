-- Texts in memory that are read: what is taken of one is what is read of it.
use Rattle.std.proofs.Common.{ℕ, List, Option, Some, subst}
use Rattle.sfc_replay.specs.Acceptance.{OfChart}
use Rattle.sfc_replay.specs.Opening.{OfBoth}
use Rattle.sfc_tools.specs.Told.{read_of}

pub of_chart : (P : List ℕ → Type 0) (text : List ℕ) (rest : Option (List ℕ)) → OfChart (Some text, rest) P → P (read_of text)
of_chart P text rest h = subst P h.1.0 h.2

pub of_both : (P : List ℕ → List ℕ → Type 0) (chart script : List ℕ) (rest left : Option (List ℕ)) → OfBoth (Some chart, rest) (Some script, left) P
    → P (read_of chart) (read_of script)
of_both P chart script rest left h =
    subst (λ text. P text (read_of script)) h.1.0 (subst (P h.0) h.2.1.0 h.2.2)
