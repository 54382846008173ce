use Rattle.std.proofs.Common.{◌∷◌, length, ap, ◌∙◌, sym, false}
use Rattle.std.proofs.lemmas.List.{length-replicate}
use Rattle.std.specs.Prelude.{replicate}
use Rattle.sfc_evolve.specs.Agreement.{StepsAgree, IsLike}
use Rattle.sfc_evolve.specs.Clearing.{step_count}
use Rattle.sfc_evolve.specs.Evolution.{rows_of, is_active}
use Rattle.sfc_evolve.proofs.Listed.{listed}
use Rattle.sfc_evolve.proofs.Stayed.{stayed}
use Rattle.sfc_evolve.proofs.steps.Steps.stay.Goals as goal

pub returns-clause-agrees : goal.returns-clause-agrees
unfolding StepsAgree
returns-clause-agrees c answer scan scans off k =
    let tables = c.args.tables.now in
    let self = c.args.self.now in
    let la = c.requires.sizes.same_steps in
    let cleared = c.clear_all.ensures.flags ∙ ap (λ n. replicate n false) c.requires.sizes.same_transitions in
    let on = c.clear_all-2.ensures.flags ∙ ap (λ n. replicate n false) (self.on_len ∙ la) in
    record {
      size = record {
        same_steps = la;
        same_transitions = ap length c.clear_all.ensures.flags ∙ length-replicate (length self.cleared) false ∙ c.requires.sizes.same_transitions;
      };
      fields = stayed tables c.steps-steps.ensures.tables self.begun self.active self.since.items self.held_times.items self.cleared self.on
          c.clear_all.new.self c.clear_all-2.new.self scan scans la (self.since_len ∙ la) (self.held_times_len ∙ la)
          c.if-not-self.false off cleared on (ap length on ∙ length-replicate (step_count tables) false) k.fields;
      proposed = k.proposed;
    }

pub returns-clause-begun : goal.returns-clause-begun
unfolding StepsAgree
returns-clause-begun c scans k = sym c.if-not-self.false ∙ k.fields.has_begun

pub returns-then-not-self-clause-begun : goal.returns-then-not-self-clause-begun
unfolding StepsAgree
returns-then-not-self-clause-begun c scans k = sym c.if-not-self.true ∙ k.fields.has_begun

-- the same flags are those of the active steps before and after
pub returns-clause-same_steps : goal.returns-clause-same_steps
unfolding StepsAgree
returns-clause-same_steps c answer scan scans off k =
    let tables = c.args.tables.now in
    let self = c.args.self.now in
    let long = c.requires.sizes.same_steps in
    let next = returns-clause-agrees c answer scan scans off k in
    sym (listed (is_active tables (rows_of tables (scan ∷ scans))) (step_count tables) self.active long next.fields.activity)
    ∙ listed (is_active tables (rows_of tables scans)) (step_count tables) self.active long k.fields.activity

pub returns-clause-like : goal.returns-clause-like
unfolding IsLike
returns-clause-like c other like = record {
  begun = like.begun;
  active = like.active;
  since = like.since;
  held_times = like.held_times;
  candidates = like.candidates;
  transitions = like.transitions ∙ sym (ap length c.clear_all.ensures.flags ∙ length-replicate (length c.args.self.now.cleared) false);
}
