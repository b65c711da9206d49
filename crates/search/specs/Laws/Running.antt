-- Where a run stands after some of its steps: the whole run is those steps and the run of the budget left. It begins
-- so with no step made, one step more keeps it, and with no budget left, or once finished, nothing is left to run.
use Rattle.std.specs.Prelude.{ℕ, suc, ◌+◌, ◌-◌, ◌≤◌, ◌<◌, ◌≡◌, refl, false}
use Rattle.std.proofs.Common.{sym, ap, ◌∙◌, suc-add, add-suc, add-one, arith}
use Rattle.std.proofs.Math.Bool.{So}
use Rattle.std.proofs.Math.Nat.{sub-zero}
use Rattle.spec.specs.Machine.{Kernel, State, StepKind, step, Kinds, no_kinds, counted, Ran, run}
use Rattle.search.specs.Laws.Runs.{run_none, run_step, run_finished, followed_by, counted_between, none_first}
use Rattle.search.specs.Laws.Runs.{none_later}
use Rattle.search.specs.Laws.StepCounts.{one_more_in_all}
use Rattle.moves.specs.Parts.{Parts, parts_view, PartsStand}

-- a run that has made so many steps of such kinds has led to a position of these parts
abbrev pub ran_to : Parts → ℕ → ℕ → Kinds → Ran
ran_to parts size steps kinds = record { state = parts_view parts size; steps = steps; kinds = kinds }

-- a run from a state has led to a position of these parts
pub record Running (kernel : Kernel) (budget : ℕ) (from : State) (parts : Parts) (steps : ℕ) (kinds : Kinds) : Type 0
  where
    pub within : steps ≤ budget
    pub add_up : kinds.placed + kinds.taken_back + kinds.closed ≡ steps
    pub stands : PartsStand kernel.size parts
    pub rest :
        run kernel budget from
        ≡ followed_by (ran_to parts kernel.size steps kinds)
        (run kernel (budget - steps) (parts_view parts kernel.size))

module _ (kernel : Kernel) (budget : ℕ) where
  pub running_none : (parts : Parts) → PartsStand kernel.size parts → Running kernel budget
      (parts_view parts kernel.size) parts 0 no_kinds
  running_none parts s =
      let from : State = parts_view parts kernel.size in
      record {
        within = omega arith;
        add_up = refl;
        stands = s;
        rest = rw sub-zero (sym (none_first from (run kernel budget from)));
      }

  module _ (from : State) {parts : Parts} {steps : ℕ} {kinds : Kinds}
      (running : Running kernel budget from parts steps kinds) where
    -- one step more, of a kind
    pub running_more : (after : Parts) (kind : StepKind) → steps < budget → parts.cursor.finished ≡ false
        → record { state = parts_view after kernel.size; kind = kind }
        ≡ step kernel (parts_view parts kernel.size)
        → PartsStand kernel.size after
        → Running kernel budget from after (steps + 1) (counted kind kinds)
    running_more after kind l u moved s =
        let left : budget - steps ≡ suc (budget - (steps + 1)) = omega arith in
        record {
          within = omega arith;
          add_up = one_more_in_all kind kinds ∙ ap suc running.add_up ∙ sym (add-one steps);
          stands = s;
          rest = running.rest ∙ rw (
            left,
            run_step kernel (budget - (steps + 1)) (parts_view parts kernel.size) u,
            ← moved,
            add-one,
            suc-add,
            add-suc,
            counted_between,
          );
        }

    -- no budget is left
    pub running_spent : budget ≤ steps
        → ran_to parts kernel.size steps kinds ≡ run kernel budget from
    running_spent l =
        let none_left : budget - steps ≡ 0 = omega arith in
        sym (running.rest ∙ rw (none_left, run_none) (none_later (ran_to parts kernel.size steps kinds)))

    -- the position is finished
    pub running_finished : So parts.cursor.finished
        → ran_to parts kernel.size steps kinds ≡ run kernel budget from
    running_finished f =
        sym (running.rest
        ∙ rw (run_finished kernel (budget - steps) (parts_view parts kernel.size) f)
        (none_later (ran_to parts kernel.size steps kinds)))
