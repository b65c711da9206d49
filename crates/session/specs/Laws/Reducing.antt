-- A reduction does what the definition of a reduction says: without a sheet it is refused; a sheet that is reduced
-- already has its counts and stays; any other is then reduced, with the machine at its start.
use Rattle.std.specs.Prelude.{◌≡◌, false}
use Rattle.std.proofs.Math.Path.{refl}
use Rattle.std.proofs.Common.{◌∙◌}
use Rattle.std.proofs.Math.Bool.{So}
use Rattle.spec.specs.Sheet.{sheet_of}
use Rattle.spec.specs.Refusal.{not_reduced}
use Rattle.spec.specs.Calls.{ReduceAnswer, reduce_refused, reduce_counts, reduce_answer, after_reduce, Reduces}
use Rattle.search.specs.declared.machine.Position.{Position}
use Rattle.session.specs.CodeSession.{text_in, sizes_said, view, Holds}
use Rattle.session.specs.Laws.SearchedHeld.{view_reduced, view_read, view_no_sheet}
use Rattle.session.specs.Laws.ReducedAnew.{reduced_to, Anew, view_anew, holds_anew}
use Rattle.preparing.specs.declared.prepared.Prepared.{Prepared}
use Rattle.session.specs.declared.Session.{Session as CodeSession}

-- the counts found are the sheet's own
sizes_held : {s : CodeSession} → Holds s → sizes_said s ≡ reduce_counts (sheet_of (text_in s))
sizes_held h = rw (h.prepared.kernel_size, h.prepared.witness.counted)

-- a session whose sheet is not reduced
pub unreduced_view : (s : CodeSession) → So s.loaded → s.reduced ≡ false → So (not_reduced (view s))
unreduced_view s p f = rw (view_read s p f)

module _ (s : CodeSession) (answer : ReduceAnswer) where
  -- without a sheet
  pub reduces_nothing : s.loaded ≡ false → answer ≡ reduce_refused 10 → Reduces (view s) answer (view s)
  unfolding reduce_answer after_reduce
  reduces_nothing f e = rw (view_no_sheet s f) (record { answers = e; leaves = refl })

  -- with one that is reduced already
  pub reduces_again : Holds s → So s.reduced → answer ≡ sizes_said s → Reduces (view s) answer (view s)
  unfolding reduce_answer after_reduce
  reduces_again h r e = rw (view_reduced s h.accepts r) (record { answers = e ∙ sizes_held h; leaves = refl })

  -- with any other
  pub reduces_anew : s.reduced ≡ false → {p : Prepared} {at : Position} → Anew s p at
      → answer ≡ sizes_said (reduced_to s p at) → Reduces (view s) answer (view (reduced_to s p at))
  unfolding reduce_answer after_reduce
  reduces_anew f anew e =
      rw (view_read s anew.accepts f, view_anew anew)
      (record { answers = e ∙ sizes_held (holds_anew anew); leaves = refl })
