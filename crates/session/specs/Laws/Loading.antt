-- What a load comes to: a sheet to which a cause applies is answered by the first such number and changes nothing; any
-- other is answered by its counts, and is then the session's, not reduced.
use Rattle.std.specs.Prelude.{ℕ, ◌≤◌, ◌≡◌, ◌≢◌, length}
use Rattle.std.proofs.Common.{◌∙◌}
use Rattle.std.proofs.Math.Bool.{false, So}
use borrow.Author.Tests.{eq-eqb, ne_eqb}
use Rattle.spec.specs.Limits.{sheet_limit}
use Rattle.spec.specs.Text.{Bytes}
use Rattle.spec.specs.Sheet.{sheet_of}
use Rattle.spec.specs.Session.{Session, read}
use Rattle.spec.specs.Refusal.{refusal, accepted}
use Rattle.spec.specs.Calls.{LoadAnswer, load_refused, load_counts, load_answer, after_load, Loads}
use Rattle.rules.specs.AcceptedFacts.{accepted_short}
use Rattle.names.specs.LaidOut.{LaidOut}
use Rattle.names.specs.declared.layout.Layout.{Layout}

module _ (before : Session) (text : Bytes) where
  -- refused
  pub refused_loads : {number : ℕ} {answer : LoadAnswer} → number ≡ refusal text → number ≢ 0 → answer ≡ load_refused
      number
      → Loads before text answer before
  unfolding load_answer after_load
  refused_loads {number} e refused said =
      let fails : accepted text ≡ false = ne_eqb (refusal text) 0 (λ z. refused (e ∙ z)) in
      record { answers = rw (fails, ← e) said; leaves = rw fails }

  -- accepted
  pub accepted_loads : {answer : LoadAnswer} {after : Session} → refusal text ≡ 0 → answer ≡ load_counts (sheet_of text)
      → after ≡ read text → Loads before text answer after
  unfolding load_answer after_load
  accepted_loads none_applies said left =
      let passes : So (accepted text) = eq-eqb (refusal text) 0 none_applies in
      record { answers = rw passes said; leaves = rw passes left }

-- an unrefused sheet is short enough to be kept
pub unrefused_short : (text : Bytes) → refusal text ≡ 0 → length text ≤ sheet_limit
unrefused_short text none_applies = accepted_short text (eq-eqb (refusal text) 0 none_applies)

-- the counts of an accepted sheet's layout
abbrev pub counts_in : Layout → LoadAnswer
counts_in layout =
    record { number = 0; users = layout.users; permissions = layout.permissions; grants = layout.grants }

-- are the sheet's own
pub counts_found : (text : Bytes) (layout : Layout) → LaidOut text layout → counts_in layout ≡ load_counts
    (sheet_of text)
counts_found text layout laid = cc (laid.user_total, laid.permission_total, laid.grant_total)
