-- No list of classes is placed twice between an accepted load and the next, however the searches on its reduced sheet
-- share out the steps. Step by step the session's position is the one that a single run from the start comes to, and
-- along a run the placed lists rise.
use Rattle.std.specs.Prelude.{ℕ, suc, ◌≤◌, ◌<◌, ◌≡◌, ◌≢◌}
use Rattle.std.proofs.Common.{arith, ⊎_elim}
use Rattle.std.proofs.Math.Path.{ap}
use Rattle.spec.specs.Limits.{search_limit}
use Rattle.spec.specs.Text.{Bytes}
use Rattle.spec.specs.Sheet.{sheet_of}
use Rattle.spec.specs.Cover.{first_best}
use Rattle.spec.specs.Machine.{Ran, depth, run, start}
use Rattle.spec.specs.Roles.{kernel_of, start_of}
use Rattle.spec.specs.Calls.{searched_on}
use Rattle.spec.specs.Sequence.{searched_in_all, reached}
use Rattle.bits.specs.Laws.Below.{below_or_from}
use Rattle.search.specs.Laws.Runs.{search_within, search_above}
use Rattle.search.specs.Laws.Rising.{placed_once}

-- the step after so much budget places a grant
abbrev pub PlacesAfter : Bytes → ℕ → Type 0
PlacesAfter text given = depth (reached text (suc given)) ≡ suc (depth (reached text given))

module _ (text : Bytes) where
  -- on a kernel that is searched, the position is that of one run
  reached_by_run : (kernel_of (sheet_of text)).size ≤ search_limit → (given : ℕ)
      → reached text given ≡ (run (kernel_of (sheet_of text)) given (start (kernel_of (sheet_of text))
      (first_best (sheet_of text)))).state
  unfolding reached searched_in_all searched_on start_of
  reached_by_run small given = ap (λ (ran : Ran). ran.state) (search_within (kernel_of (sheet_of text)) given
      (start_of (sheet_of text)) small)

  -- on any other it never moves
  never_moved : search_limit < (kernel_of (sheet_of text)).size → (given : ℕ) → reached text given ≡ start_of
      (sheet_of text)
  unfolding reached searched_in_all searched_on
  never_moved large given = ap (λ (ran : Ran). ran.state) (search_above (kernel_of (sheet_of text)) given
      (start_of (sheet_of text)) large)

  pub placed_once_a_load : (m n : ℕ) → m < n → PlacesAfter text m → PlacesAfter text n
      → (reached text (suc m)).placed ≢ (reached text (suc n)).placed
  placed_once_a_load m n l first second same =
      ⊎_elim
      (λ large. omega (arith, ap depth (never_moved large m), ap depth (never_moved large (suc m))))
      (λ small.
      placed_once (kernel_of (sheet_of text)) (first_best (sheet_of text)) m n l
      (rw (reached_by_run small m, reached_by_run small (suc m)) at first)
      (rw (reached_by_run small n, reached_by_run small (suc n)) at second)
      (rw (reached_by_run small (suc m), reached_by_run small (suc n)) at same))
      (below_or_from search_limit (kernel_of (sheet_of text)).size)
