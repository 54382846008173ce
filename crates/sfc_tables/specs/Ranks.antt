-- The order in which transitions are considered (2.6.5, Table 46).
use Rattle.std.specs.Prelude.{ℕ, ◌≡◌, ◌==◌, ◌<◌, nat_lt, ◌^◌, ◌⊎◌, Bool, ◌||◌, ◌&&◌, if◌then◌else◌}
use Rattle.std.specs.Prelude.{List, [], ◌∷◌, length, map, slice_index_or, Option, Some, None, AllPairs}
use Rattle.std.specs.List.{range_with_len}
use Rattle.std.specs.List.Sorted.{IsPermutation}
use Rattle.sfc_plant.specs.declared.chart.Transition.{Transition}
use Rattle.sfc_base.specs.declared.ids.TransitionId.{TransitionId}

-- a transition without a priority ranks after every priority
abbrev pub key : Option ℕ → ℕ
key None = 2 ^ 32
key (Some p) = p

abbrev pub priorities_of : List Transition → List (Option ℕ)
priorities_of transitions = map (λ transition. transition.priority) transitions

-- the key of a transition
abbrev pub key_of : List (Option ℕ) → TransitionId → ℕ
key_of priorities a = key (slice_index_or priorities a.0 None)

-- transition a ranks before b: by its priority, and where these are alike by its place in the text
abbrev pub RanksBefore : List (Option ℕ) → TransitionId → TransitionId → Type 0
RanksBefore priorities a b =
    let p = key_of priorities a in
    let q = key_of priorities b in
    (p < q) ⊎ ((p ≡ q) × (a.0 < b.0))

-- all n transitions, in text order
abbrev pub transitions_to : ℕ → List TransitionId
transitions_to n = map (λ (i : ℕ). let id : TransitionId = record { 0 = i } in id) (range_with_len 0 n)

-- each transition once, and each before those that it ranks before
pub record IsRankOrder (priorities : List (Option ℕ)) (ranked : List TransitionId) : Type 0 where
  pub all : IsPermutation (transitions_to (length priorities)) ranked
  pub sorted : AllPairs (RanksBefore priorities) ranked

-- whether transition a ranks before b
abbrev pub ranks_before : List (Option ℕ) → TransitionId → TransitionId → Bool
ranks_before priorities a b =
    let p = key_of priorities a in
    let q = key_of priorities b in
    nat_lt p q || (p == q && nat_lt a.0 b.0)

-- transition a put in among ranked ones, before the first that it ranks before
abbrev pub insert_by_rank : List (Option ℕ) → TransitionId → List TransitionId → List TransitionId
insert_by_rank priorities a [] = a ∷ []
insert_by_rank priorities a (b ∷ ranked) =
    if ranks_before priorities a b then a ∷ b ∷ ranked else b ∷ insert_by_rank priorities a ranked

-- these transitions by rank: each put in where it ranks
abbrev pub sort_by_rank : List (Option ℕ) → List TransitionId → List TransitionId
sort_by_rank priorities [] = []
sort_by_rank priorities (a ∷ transitions) = insert_by_rank priorities a (sort_by_rank priorities transitions)

-- all transitions by rank: the one list that is a rank order
unfoldable pub rank_order : List (Option ℕ) → List TransitionId
rank_order priorities = sort_by_rank priorities (transitions_to (length priorities))
