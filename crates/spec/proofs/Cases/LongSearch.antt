-- The long search, computed from the definitions: its argument, the depth gained, its lines and where it stops. The
-- searches here have 50 steps instead of 100,000,000, on the sheet of four users whose search closes in step 125.
use Rattle.spec.specs.Vocabulary.{ℕ, true, false, none, some, List, [], map}
use Rattle.spec.specs.Vocabulary.{lowest_below}
use Rattle.std.specs.Prelude.{◌≡◌, refl, ◌∷◌}
use Rattle.spec.specs.Limits.{round_budget, usual_rounds, budget_limit}
use Rattle.spec.specs.Text.{Bytes, ascii}
use Rattle.spec.specs.Sheet.{sheet_of}
use Rattle.spec.specs.Machine.{search}
use Rattle.spec.specs.Roles.{witnessed, searched, unsettled, kernel_of, start_of, role_count, bound, standing}
use Rattle.spec.specs.Decimal.{decimal}
use Rattle.spec.specs.Session.{Session}
use Rattle.spec.specs.Refusal.{refusal}
use Rattle.spec.specs.Calls.{search_answer, searched_on, after_load, after_reduce, after_search}
use Rattle.spec.specs.Program.{is_budget}
use Rattle.spec.specs.LongSearch.{is_rounds, rounds_of, says_open, round_answers, after_rounds, depth_gained}
use Rattle.spec.specs.LongSearch.{progress_lines, opened, long_search_output, long_search_lines}

-- the greatest number, and one beyond; 0, no word, no digits, a sign, leading zeros; others are ignored
rounds : map rounds_of
    ((ascii "4294967295" ∷ [])
    ∷ (ascii "4294967296" ∷ [])
    ∷ (ascii "0" ∷ [])
    ∷ (ascii "00" ∷ [])
    ∷ (ascii "" ∷ [])
    ∷ (ascii "1x" ∷ [])
    ∷ (ascii "-1" ∷ [])
    ∷ (ascii "007" ∷ [])
    ∷ (ascii "1" ∷ [])
    ∷ (ascii "5" ∷ ascii "6" ∷ [])
    ∷ []
    ∷ [])
    ≡ 4_294_967_295 ∷ 3_600 ∷ 3_600 ∷ 3_600 ∷ 3_600 ∷ 3_600 ∷ 3_600 ∷ 7 ∷ 1 ∷ 5 ∷ 3_600 ∷ []
unfolding rounds_of is_rounds is_budget budget_limit usual_rounds
rounds = refl

-- only `open` goes on
goes_on : map says_open (none ∷ some witnessed ∷ some searched ∷ some unsettled ∷ [])
    ≡ false ∷ false ∷ false ∷ true ∷ []
goes_on = refl

gained : depth_gained 12 5 ∷ depth_gained 5 12 ∷ depth_gained 0 3 ∷ depth_gained 4 4 ∷ depth_gained 0 0 ∷ []
    ≡ ascii "7" ∷ ascii "-7" ∷ ascii "-3" ∷ ascii "0" ∷ ascii "0" ∷ []
unfolding decimal
gained = refl

crown_of_four : Bytes
crown_of_four = ascii "user,a,b,c,d\nw,0,1,1,1\nx,1,0,1,1\ny,1,1,0,1\nz,1,1,1,0\n"

start : Session
unfolding crown_of_four after_load after_reduce refusal sheet_of start_of kernel_of
start = opened crown_of_four

-- three searches close it; of nine rounds the last six are not made. The third falls below its start
lines_of : ℕ → List Bytes
unfolding round_answers start search_answer after_search searched_on search kernel_of sheet_of start_of role_count bound
    standing decimal
lines_of rounds = progress_lines 0 (round_answers 50 rounds start) (7 ∷ 8 ∷ 9 ∷ 10 ∷ [])

first_line : Bytes
first_line = ascii "50 steps so far, depth gained 2, 4 roles, bound 3, open, 7 steps a second\n"

second_line : Bytes
second_line = ascii "100 steps so far, depth gained 4, 4 roles, bound 3, open, 8 steps a second\n"

third_line : Bytes
third_line = ascii "125 steps so far, depth gained -6, 4 roles, bound 4, searched, 9 steps a second\n"

lines : map lines_of (2 ∷ 9 ∷ [])
    ≡ (first_line ∷ second_line ∷ []) ∷ (first_line ∷ second_line ∷ third_line ∷ []) ∷ []
unfolding lines_of start crown_of_four first_line second_line third_line lowest_below
lines = refl

-- the steps that a search of 100 still makes after so many rounds
left_after : ℕ → ℕ
unfolding after_rounds start search_answer after_search searched_on search kernel_of sheet_of start_of role_count bound
    standing
left_after rounds = (search_answer (after_rounds 50 rounds start) 100).steps

left : map left_after (1 ∷ 2 ∷ 3 ∷ []) ≡ 75 ∷ 25 ∷ 0 ∷ []
unfolding left_after start crown_of_four lowest_below
left = refl

-- the lines of a sheet that needs no search; and a refused one, which has none
one_grant : Bytes
one_grant = ascii "user,a\nx,1\n"

says : long_search_lines one_grant [] (3 ∷ 4 ∷ [])
    ≡ ascii "0 steps so far, depth gained 0, 1 roles, bound 1, witnessed, 3 steps a second\n" ∷ []
unfolding one_grant long_search_lines rounds_of usual_rounds round_budget round_answers search_answer after_load
    after_reduce after_search searched_on refusal sheet_of kernel_of start_of search role_count bound standing decimal
    lowest_below
says = refl

refused : long_search_output [] [] ∷ long_search_lines [] [] (3 ∷ []) ≡ ascii "2\n" ∷ []
unfolding long_search_output long_search_lines refusal decimal
refused = refl
