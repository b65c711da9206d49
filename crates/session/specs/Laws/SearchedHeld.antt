-- A search of a session whose sheet is reduced does what the definition of a search says: its answer has the steps
-- made, what they were, and the counts where the search then stands, and the session after it has the state that the
-- machine came to. Without a sheet, and on one not yet reduced, it is refused, and the session stays.
use Rattle.std.specs.Prelude.{ℕ, ◌≡◌, refl, false}
use Rattle.std.proofs.Math.Path.{ap}
use Rattle.std.proofs.Common.{◌∙◌}
use Rattle.std.proofs.Math.Bool.{So}
use Rattle.std.proofs.Math.Option.{some}
use Rattle.spec.specs.Machine.{State, Kinds}
use Rattle.spec.specs.Session.{no_sheet, read, reduced}
use Rattle.spec.specs.Calls.{SearchAnswer, search_refused, searched_on, search_answer, after_search, Searches}
use Rattle.moves.specs.StepKinds.{kinds_said}
use Rattle.search.specs.declared.machine.Ran.{Ran}
use Rattle.standing.specs.StandingCases.{standing_case}
use Rattle.book_lines.specs.declared.counts.Counts.{Counts}
use Rattle.session.specs.CodeSession.{text_in, state_in, view}
use Rattle.session.specs.Laws.Counted.{CountsIn, moved_to, RanIn}
use Rattle.session.specs.declared.Session.{Session as CodeSession}

pub view_reduced : (s : CodeSession) → So s.loaded → So s.reduced → view s ≡ reduced (text_in s) (state_in s)
view_reduced s p r = rw (p, r)

pub view_read : (s : CodeSession) → So s.loaded → s.reduced ≡ false → view s ≡ read (text_in s)
view_read s p f = rw (p, f)

pub view_no_sheet : (s : CodeSession) → s.loaded ≡ false → view s ≡ no_sheet
view_no_sheet s f = rw f

-- without a sheet
pub searches_nothing : (s : CodeSession) → s.loaded ≡ false → (budget : ℕ) (answer : SearchAnswer)
    → answer ≡ search_refused 10
    → Searches (view s) budget answer (view s)
unfolding search_answer after_search
searches_nothing s f budget answer e = rw (view_no_sheet s f) (record { answers = e; leaves = refl })

-- with one that is not reduced
pub searches_unreduced : (s : CodeSession) → So s.loaded → s.reduced ≡ false → (budget : ℕ) (answer : SearchAnswer)
    → answer ≡ search_refused 16
    → Searches (view s) budget answer (view s)
unfolding search_answer after_search
searches_unreduced s p f budget answer e = rw (view_read s p f) (record { answers = e; leaves = refl })

-- the answer for the steps of a run, their kinds and some counts
abbrev pub found_answer : ℕ → Kinds → Counts → SearchAnswer
found_answer steps kinds counts =
    record {
      number = 0;
      steps = steps;
      placed = kinds.placed;
      taken_back = kinds.taken_back;
      closed = kinds.closed;
      roles = counts.roles;
      bound = counts.bound;
      standing = some (standing_case counts.standing);
    }

module _ {s : CodeSession} {budget : ℕ} {ran : Ran} (on : RanIn s budget ran) where
  found_answers : {counts : Counts} → CountsIn (moved_to s ran.position) counts
      → found_answer ran.steps (kinds_said ran.kinds) counts ≡ search_answer
      (reduced (text_in s) (state_in s)) budget
  unfolding search_answer searched_on
  found_answers c =
      rw (
        on.steps,
        ap (λ (n : Kinds). n.placed) on.kinds,
        ap (λ (n : Kinds). n.taken_back) on.kinds,
        ap (λ (n : Kinds). n.closed) on.kinds,
        c.roles,
        c.bound,
        c.standing,
        on.state,
      )

  moved_leaves : reduced (text_in s) (state_in (moved_to s ran.position)) ≡ after_search
      (reduced (text_in s) (state_in s)) budget
  unfolding after_search searched_on
  moved_leaves = ap (λ (st : State). reduced (text_in s) st) on.state

  -- with one that is reduced
  pub searches_held : So s.reduced → {counts : Counts} → CountsIn (moved_to s ran.position) counts
      → (answer : SearchAnswer)
      → answer ≡ found_answer ran.steps (kinds_said ran.kinds) counts
      → Searches (view s) budget answer (view (moved_to s ran.position))
  searches_held r c answer e =
      rw (view_reduced s on.holds.accepts r, view_reduced (moved_to s ran.position) on.holds.accepts r)
      (record { answers = e ∙ found_answers c; leaves = moved_leaves })
