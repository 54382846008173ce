use Rattle.std.proofs.Common.{◌∙◌, ◌-◌, ◌++◌, [], refl, sym, ap, ℕ, List, Option, Some}
use Rattle.std.specs.Prelude.{map, option_map}
use Rattle.sfc_cases.specs.declared.joined.Condition.{Condition}
use Rattle.sfc_cases.specs.declared.joined.Joint.{Joint}
use Rattle.sfc_cases.specs.declared.joined.Part.{Part}
use Rattle.sfc_cases.specs.Conditions.{all_parts, part_said, parts_of}
use Rattle.sfc_cases.proofs.JoinedParts.{last_part_read, last_parts, next_parts, with_part, without_part}
use Rattle.sfc_cases.proofs.condition.read_condition.Goals as goal

abbrev made : Option (List Part) → Option Condition
made o = option_map (λ parts. record { parts = parts }) o

pub returns-in_default-said : goal.returns-in_default-said
returns-in_default-said c = λ read is.
    let f : Joint × List ℕ → Option Part = part_said c.args.plant.now read in
    let n : ℕ = c.parts.left in
    let front : List ℕ = c.in-Some.front.now in
    let behind : List ℕ = c.in-Some.behind.now in
    let rest : List ℕ = c.parts.rest.now in
    sym (ap made (c.parts.invariant read is
    ∙ without_part f c.parts.parts.items (c.parts.joint, front) (parts_of (n - 1) c.in-Some.next behind) (parts_of n c.parts.joint rest)
    (next_parts n c.parts.joint c.in-Some.next rest front behind c.in-Some.ensures.left c.in-Some.ensures.some)
    (sym (c.in_ok-said.ensures read is) ∙ c.in_default-said.is)))

pub parts-preserved : goal.parts-preserved
parts-preserved c = λ read is.
    let f : Joint × List ℕ → Option Part = part_said c.args.plant.now read in
    let n : ℕ = c.parts.left in
    let front : List ℕ = c.in-Some.front.now in
    let behind : List ℕ = c.in-Some.behind.now in
    let rest : List ℕ = c.parts.rest.now in
    c.parts.invariant read is
    ∙ with_part f c.parts.parts.items (c.parts.joint, front) (parts_of (n - 1) c.in-Some.next behind) (parts_of n c.parts.joint rest)
    (next_parts n c.parts.joint c.in-Some.next rest front behind c.in-Some.ensures.left c.in-Some.ensures.some)
    c.in-Some-said.part (sym (c.in_ok-said.ensures read is) ∙ c.in-Some-said.is)
    ∙ ap (λ (items : List Part). option_map (λ parts. items ++ parts) (all_parts (map f (parts_of (n - 1) c.in-Some.next behind))))
    (sym c.in_ok-push.ensures.items)

pub returns-in_default-last : goal.returns-in_default-last
returns-in_default-last c = λ read is.
    let f : Joint × List ℕ → Option Part = part_said c.args.plant.now read in
    let n : ℕ = c.parts.left in
    let rest : List ℕ = c.parts.rest.now in
    sym (ap made (c.parts.invariant read is
    ∙ without_part f c.parts.parts.items (c.parts.joint, rest) [] (parts_of n c.parts.joint rest)
    (last_parts n c.parts.joint rest (c.in_default.ensures.none refl)) (sym (c.in_ok-last.ensures read is) ∙ c.in_default-last.is)))

pub returns : goal.returns
returns c = λ read is.
    let f : Joint × List ℕ → Option Part = part_said c.args.plant.now read in
    let n : ℕ = c.parts.left in
    let rest : List ℕ = c.parts.rest.now in
    ap (λ parts. Some (record { parts = parts })) (c.from_vec.ensures ∙ c.in_ok-push-2.ensures.items)
    ∙ sym (ap made (c.parts.invariant read is
    ∙ last_part_read f c.parts.parts.items (c.parts.joint, rest) [] (parts_of n c.parts.joint rest)
    (last_parts n c.parts.joint rest (c.in_default.ensures.none refl)) c.in-Some-last.part
    (sym (c.in_ok-last.ensures read is) ∙ c.in-Some-last.is) refl))
