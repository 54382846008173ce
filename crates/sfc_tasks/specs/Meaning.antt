-- The multiples and the releases, by what they are (2.7.2).
use Rattle.std.specs.Prelude.{ℕ, ◌≡◌, ◌^◌, false, List, [], ◌∷◌, ◌++◌, All, Contains, ⊤}
use Rattle.std.specs.Prelude.{ℤ, pos, ◌≤ℤ◌, ◌<ℤ◌}
use Rattle.sfc_tasks.specs.Multiples.{multiple}
use Rattle.sfc_tasks.specs.Calls.{Call, Elapsed, Rose, Served, serves, last_instant}
use Rattle.sfc_tasks.specs.Releases.{released}

-- u is a multiple of the interval, after `last` and not after t
pub record IsMultipleBetween (interval last t u : ℤ) : Type 0 where
  pub number : ℕ
  pub is_multiple : u ≡ multiple interval number
  pub positive : pos 0 <ℤ interval
  pub after : last <ℤ u
  pub until : u ≤ℤ t

-- u is the least multiple after t, and an instant
pub record IsNext (interval t u : ℤ) : Type 0 where
  pub number : ℕ
  pub is_multiple : u ≡ multiple interval number
  pub after : t <ℤ u
  pub instant : u ≤ℤ pos (2 ^ 62)
  pub least : (m : ℕ) → t <ℤ multiple interval m → u ≤ℤ multiple interval m

-- some call released task k at u, and no later one served it
pub record IsReleasedSince (interval : ℤ) (k : ℕ) (calls : List Call) (u : ℤ) : Type 0 where
  pub later : List Call
  pub call : Call
  pub earlier : List Call
  pub splits : calls ≡ later ++ call ∷ earlier
  pub releases : Contains (released interval k (last_instant earlier) call) u
  pub unserved : All (λ other. serves k other ≡ false) later

-- the call comes where time goes on: not back, and a rise at the instant up to which it has gone on
abbrev pub ComesAt : ℤ → Call → Type 0
ComesAt last (Elapsed t singles) = last ≤ℤ t
ComesAt last (Rose task t) = t ≡ last
ComesAt last (Served task) = ⊤

-- each call comes so
abbrev pub AreInOrder : List Call → Type 0
AreInOrder [] = ⊤
AreInOrder (call ∷ calls) = ComesAt (last_instant calls) call × AreInOrder calls
