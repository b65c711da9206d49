-- The long search, a program of this project's own for the person at the desk: a sheet on standard input, the number of
-- searches as the argument. It loads, reduces and searches again and again on one session; after each search a line on
-- standard error says what request [5] of document 02 is for, whether it climbs or falls back. Then it prints the
-- session's book, or a refusal number, on standard output.
use Rattle.std.specs.Prelude.{◌+◌, ◌-◌, ◌&&◌, ◌∷◌, ◌++◌}
use Rattle.spec.specs.Vocabulary.{ℕ, zero, suc, Bool, true, false, not, cond, Option, none, some}
use Rattle.spec.specs.Vocabulary.{List, [], eqb, ltb, replicate}
use Rattle.spec.specs.Limits.{round_budget, usual_rounds, book_limit}
use Rattle.spec.specs.Text.{Bytes, ascii}
use Rattle.spec.specs.Roles.{Standing, witnessed, searched, unsettled}
use Rattle.spec.specs.Decimal.{decimal, number_of}
use Rattle.spec.specs.Book.{standing_word}
use Rattle.spec.specs.Session.{Session, fresh}
use Rattle.spec.specs.Refusal.{refusal, accepted}
use Rattle.spec.specs.Calls.{SearchAnswer, search_answer, after_load, after_reduce, after_search}
use Rattle.spec.specs.Program.{is_budget, number_line, printed}

-- 1 to 4,294,967,295 searches: written as a budget is, and not 0
unfoldable pub is_rounds : Bytes → Bool
is_rounds word = is_budget word && not (eqb (number_of word) 0)

-- the number of searches is the first argument, and the usual one where there is none or it is no number of that range;
-- others are ignored. The shell front lets no such word come so far: there it is wrong use
unfoldable pub rounds_of : List Bytes → ℕ
rounds_of [] = usual_rounds
rounds_of (word ∷ further) = cond (is_rounds word) (number_of word) usual_rounds

-- a search that answered `open`
abbrev pub says_open : Option Standing → Bool
says_open none = false
says_open (some witnessed) = false
says_open (some searched) = false
says_open (some unsettled) = true

-- searches of one budget on a session, one after the other: as many as the rounds, or up to the first that does not
-- answer `open` if fewer. Their answers, the first search first
unfoldable pub round_answers : ℕ → ℕ → Session → List SearchAnswer
round_answers budget zero session = []
round_answers budget (suc rounds) session =
    let answer : SearchAnswer = search_answer session budget in
    let later : List SearchAnswer = round_answers budget rounds (after_search session budget) in
    answer ∷ cond (says_open answer.standing) later []

-- and the session after them
unfoldable pub after_rounds : ℕ → ℕ → Session → Session
after_rounds budget zero session = session
after_rounds budget (suc rounds) session =
    let after : Session = after_search session budget in
    let later : Session = after_rounds budget rounds after in
    cond (says_open (search_answer session budget).standing) later after

-- the depth gained: placed minus taken back, with a minus sign where it is negative
abbrev pub depth_gained : ℕ → ℕ → Bytes
depth_gained placed taken_back =
    cond (ltb placed taken_back) (ascii "-" ++ decimal (taken_back - placed)) (decimal (placed - taken_back))

-- the state that an answer names, `-` where it names none
abbrev pub named_word : Option Standing → Bytes
named_word none = ascii "-"
named_word (some standing) = standing_word standing

-- the line after a search: steps so far, depth gained, roles, bound, state, steps a second. The steps so far are those
-- of all searches, the depth gained is this search's, and how many steps it made a second is measured
abbrev pub progress_line : ℕ → SearchAnswer → ℕ → Bytes
progress_line so_far answer speed =
    decimal so_far
    ++ ascii " steps so far, depth gained " ++ depth_gained answer.placed answer.taken_back
    ++ ascii ", " ++ decimal answer.roles
    ++ ascii " roles, bound " ++ decimal answer.bound
    ++ ascii ", " ++ named_word answer.standing
    ++ ascii ", " ++ decimal speed
    ++ ascii " steps a second\n"

-- the lines after some searches, one for each, after so many steps before them
abbrev pub progress_lines : ℕ → List SearchAnswer → List ℕ → List Bytes
progress_lines before [] speeds = []
progress_lines before (answer ∷ later) [] = []
progress_lines before (answer ∷ later) (speed ∷ speeds) =
    let so_far : ℕ = before + answer.steps in
    progress_line so_far answer speed ∷ progress_lines so_far later speeds

-- the session that is searched: a sheet that was loaded and reduced
abbrev pub opened : Bytes → Session
opened text = after_reduce (after_load fresh text)

-- what is printed on standard output, from a buffer that takes every book of a session
unfoldable pub long_search_output : Bytes → List Bytes → Bytes
long_search_output text arguments =
    let found : Bytes =
    printed (after_rounds round_budget (rounds_of arguments) (opened text)) (replicate book_limit 0) in
    cond (accepted text) found (number_line (refusal text))

-- and on standard error, with the speeds that were measured; nothing for a refused sheet
unfoldable pub long_search_lines : Bytes → List Bytes → List ℕ → List Bytes
long_search_lines text arguments speeds =
    let lines : List Bytes = progress_lines 0 (round_answers round_budget (rounds_of arguments) (opened text)) speeds in
    cond (accepted text) lines []
