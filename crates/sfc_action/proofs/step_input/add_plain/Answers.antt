use Rattle.std.proofs.Common.{◌≡◌, ◌∙◌, ◌-◌, ◌/◌, ◌==◌, cond, ◌∷◌, [], ℕ, arith, ap, sym, refl, get_or}
use Rattle.sfc_action.specs.declared.step_input.PlainRun.{PlainRun}
use Rattle.std.proofs.lemmas.List.{get_or_default}
use Rattle.std.proofs.lemmas.List.Elements.{All-append}
use Rattle.sfc_flags.specs.Words.{word_of}
use Rattle.sfc_action.specs.Private.Marks.{with_plain}
use Rattle.sfc_action.specs.Private.Rows.{plain_in, no_plain}
use Rattle.sfc_action.specs.Private.StepGiving.{all_joined, IsRunOf}
use Rattle.sfc_action.proofs.StepGiving.{run_alone, joined_more, joined_alone, last_more, one_more}
use Rattle.sfc_action.proofs.step_input.add_plain.Goals as goal

pub returns-then-index-number-clause-rows : goal.returns-then-index-number-clause-rows
returns-then-index-number-clause-rows c a r =
    let runs = c.args.runs.now.items in
    let k = c.len-count.result - 1 in
    let old = c.index_mut.result.now in
    let new : PlainRun = record { number = old.number; plain = c.mark.new.self } in
    let at : old ≡ get_or runs k old = c.index_mut.ensures.value in
    let seen : c.index.result.now ≡ get_or runs k old = c.index.ensures ∙ get_or_default runs k c.index.result.now old (omega arith) in
    let number : (get_or runs k old).number ≡ word_of c.args.action = ap (λ (run : PlainRun). run.number) (sym seen) ∙ c.if-index-number.true in
    last_more a c.args.action c.args.qualifier c.requires.plain runs k old new (omega arith)
    (joined_more a c.args.action c.args.qualifier c.requires.plain (get_or runs k old) new number
    (ap (λ (run : PlainRun). run.number) at)
    (λ e. c.mark.ensures a e ∙ ap (λ (run : PlainRun). cond (a == c.args.action) (with_plain c.args.qualifier (plain_in run.plain a)) (plain_in run.plain a)) at)) r

-- the entry that is added
put : (c : goal.In_ok-push) (a : ℕ) → word_of a ≡ word_of c.args.action
    → plain_in c.mark-2.new.self a ≡ cond (a == c.args.action) (with_plain c.args.qualifier no_plain) no_plain
put c a e = c.mark-2.ensures a e ∙ ap (λ p. cond (a == c.args.action) (with_plain c.args.qualifier p) p) (c.none-plain.ensures a)

abbrev added : goal.In_ok-push → PlainRun
added c = record { number = c.args.action / 64; plain = c.mark-2.new.self }

pub returns-clause-rows : goal.returns-clause-rows
returns-clause-rows c a r =
    ap (λ runs. all_joined a runs r) c.in_ok-push.ensures.items
    ∙ one_more a c.args.action c.args.qualifier c.requires.plain c.args.runs.now.items (added c)
    (joined_alone a c.args.action c.args.qualifier c.requires.plain (added c) refl (put c a)) r

pub returns-clause-within : goal.returns-clause-within
returns-clause-within c n lt all =
    let here : IsRunOf n (added c) = run_alone n c.args.action c.args.qualifier (added c) lt refl (put c) in
    rw c.in_ok-push.ensures.items
    (All-append (IsRunOf n) c.args.runs.now.items (added c ∷ []) all (λ k d less. (let e : k ≡ 0 = omega arith in rw e here)))
