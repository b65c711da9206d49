-- Newcomers in books, computed from the definitions: the new books, byte for byte, the causes in their order, and of
-- neighbours among them the one that is answered.
use Prim.Native.String.{String}
use Rattle.std.specs.Prelude.{refl, ◌≡◌, ◌∷◌, ◌++◌}
use Rattle.spec.specs.Vocabulary.{ℕ, Bool, true, false, [], map, replicate, concat}
use Rattle.spec.specs.Vocabulary.{every_below, lowest_below, list_of}
use Rattle.spec.specs.Limits.{user_limit, role_limit}
use Rattle.spec.specs.Text.{Bytes, ascii}
use Rattle.spec.specs.RoleSet.{cell_after}
use Rattle.spec.specs.Decimal.{decimal}
use Rattle.spec.specs.Book.{role_name}
use Rattle.spec.specs.Calls.{WriteAnswer}
use Rattle.spec.specs.Newcomer.{Admission, new_book, feed_before_end, users_at_limit, newcomer_causes}
use Rattle.spec.specs.Newcomer.{newcomer_answer, buffer_admitting}

-- ---- new books

-- a book: its counts, its roles, its users and its witness
book_of : String → String → String → String → Bytes
book_of counts roles users witness =
    ascii "roles,bound,state\n" ++ ascii counts ++ ascii "\n\n" ++ ascii roles ++ ascii "\n" ++ ascii users
    ++ ascii "\nuser,permission\n" ++ ascii witness

-- the worked example's sheet and its book
worked : Bytes
worked = ascii "user,rec,id,map\nann,1,1,0\nbo,0,1,1\ncy,1,1,1\n"

roles : String
roles = "role,rec,id,map\nR1,1,1,0\nR2,0,1,1\n"

users : String
users = "user,R1,R2\nann,1,0\nbo,0,1\ncy,1,1\n"

two : String
two = "ann,rec\nbo,map\n"

-- a newcomer of the worked example, in a book that is right for it
admitted_to : Bytes → String → Bytes
unfolding new_book worked
admitted_to book line = new_book (record { sheet = worked; book = book; line = ascii line })

worked_book : Bytes
unfolding book_of roles users two
worked_book = book_of "2,2,witnessed" roles users two

-- none of the roles, one, and all; the newcomer's name as in the line. No permission is left over, so the state word
-- and the bound are kept
kept : map (admitted_to worked_book) ("di,0,0,0\n" ∷ "di,1,1,0\n" ∷ "DI,1,1,1\n" ∷ [])
    ≡ book_of "2,2,witnessed" roles "user,R1,R2\nann,1,0\nbo,0,1\ncy,1,1\ndi,0,0\n" two
    ∷ book_of "2,2,witnessed" roles "user,R1,R2\nann,1,0\nbo,0,1\ncy,1,1\ndi,1,0\n" two
    ∷ book_of "2,2,witnessed" roles "user,R1,R2\nann,1,0\nbo,0,1\ncy,1,1\nDI,1,1\n" two
    ∷ []
unfolding admitted_to worked_book cell_after every_below lowest_below
kept = refl

-- `rec` and `map` are in no role that they hold whole: a new role has both, and is theirs alone. With `rec`, `id` and
-- nothing else they would have R1; with `id` alone a role of `id` alone. The state is `open`, the bound the witness
-- count
new_role : map (admitted_to worked_book) ("di,1,0,1\n" ∷ "di,0,1,0\n" ∷ [])
    ≡ book_of "3,2,open" "role,rec,id,map\nR1,1,1,0\nR2,0,1,1\nR3,1,0,1\n"
    "user,R1,R2,R3\nann,1,0,0\nbo,0,1,0\ncy,1,1,0\ndi,0,0,1\n" two
    ∷ book_of "3,2,open" "role,rec,id,map\nR1,1,1,0\nR2,0,1,1\nR3,0,1,0\n"
    "user,R1,R2,R3\nann,1,0,0\nbo,0,1,0\ncy,1,1,0\ndi,0,0,1\n" two
    ∷ []
unfolding admitted_to worked_book cell_after every_below lowest_below
new_role = refl

-- a `searched` book with one witness line: with no new role it stays so; with one it is `open`, and its bound is 1, no
-- longer 2
one_line : Bytes
unfolding book_of roles users
one_line = book_of "2,2,searched" roles users "bo,map\n"

from_searched : map (admitted_to one_line) ("di,0,1,1\n" ∷ "di,1,0,0\n" ∷ [])
    ≡ book_of "2,2,searched" roles "user,R1,R2\nann,1,0\nbo,0,1\ncy,1,1\ndi,0,1\n" "bo,map\n"
    ∷ book_of "3,1,open" "role,rec,id,map\nR1,1,1,0\nR2,0,1,1\nR3,1,0,0\n"
    "user,R1,R2,R3\nann,1,0,0\nbo,0,1,0\ncy,1,1,0\ndi,0,0,1\n" "bo,map\n"
    ∷ []
unfolding admitted_to one_line cell_after every_below lowest_below
from_searched = refl

-- a book that spells every name in its own way and has its witness in another order: names as in the sheet, the witness
-- in the book's order
in_other_case : admitted_to
    (book_of "2,2,witnessed" "role,REC,Id,mAP\nR1,1,1,0\nR2,0,1,1\n" "user,R1,R2\nANN,1,0\nBo,0,1\ncY,1,1\n"
    "BO,Map\nAnn,REC\n") "di,1,1,0\n"
    ≡ book_of "2,2,witnessed" roles "user,R1,R2\nann,1,0\nbo,0,1\ncy,1,1\ndi,1,0\n" "bo,map\nann,rec\n"
unfolding admitted_to book_of roles cell_after every_below lowest_below
in_other_case = refl

-- some is left over: they get R1, which has `a`, and the new role has `b` alone, not what R1 has. A role of no
-- permissions is got by everyone, and a role that is there twice is got twice
small : String → Bytes → String → Bytes
unfolding new_book
small sheet book line = new_book (record { sheet = ascii sheet; book = book; line = ascii line })

rest_only : small "user,a,b\nx,1,0\n" (book_of "1,1,witnessed" "role,a,b\nR1,1,0\n" "user,R1\nx,1\n" "x,a\n") "y,1,1\n"
    ≡ book_of "2,1,open" "role,a,b\nR1,1,0\nR2,0,1\n" "user,R1,R2\nx,1,0\ny,1,1\n" "x,a\n"
unfolding small book_of cell_after every_below lowest_below
rest_only = refl

empty_role : map
    (small "user,a\nx,1\n" (book_of "3,1,open" "role,a\nR1,1\nR2,0\nR3,1\n" "user,R1,R2,R3\nx,1,0,0\n" "x,a\n"))
    ("y,0\n" ∷ "y,1\n" ∷ [])
    ≡ book_of "3,1,open" "role,a\nR1,1\nR2,0\nR3,1\n" "user,R1,R2,R3\nx,1,0,0\ny,0,1,0\n" "x,a\n"
    ∷ book_of "3,1,open" "role,a\nR1,1\nR2,0\nR3,1\n" "user,R1,R2,R3\nx,1,0,0\ny,1,1,1\n" "x,a\n"
    ∷ []
unfolding small book_of cell_after every_below lowest_below
empty_role = refl

-- a sheet without grants has a book without roles; the newcomer's is the first role
first_role : small "user,a\nx,0\n" (book_of "0,0,witnessed" "role,a\n" "user\nx\n" "") "y,1\n"
    ≡ book_of "1,0,open" "role,a\nR1,1\n" "user,R1\nx,0\ny,1\n" ""
unfolding small book_of cell_after every_below lowest_below
first_role = refl

-- ---- the lent buffer

-- the answer, and the lent buffer after it
record Answered : Type 0 where
  answer : WriteAnswer
  lent : Bytes

answered : ℕ → Answered
unfolding newcomer_answer newcomer_causes buffer_admitting new_book worked worked_book
answered room =
    let lent : Admission = record { sheet = worked; book = worked_book; line = ascii "di,1,1,0\n" } in
    record { answer = newcomer_answer lent (replicate room 7); lent = buffer_admitting lent (replicate room 7) }

di_admitted : Bytes
unfolding book_of roles two
di_admitted = book_of "2,2,witnessed" roles "user,R1,R2\nann,1,0\nbo,0,1\ncy,1,1\ndi,1,0\n" two

-- a buffer that is one byte short is an 11 and untouched; an exact one; of a longer one the bytes past the book stay
buffers : map answered (139 ∷ 140 ∷ 142 ∷ [])
    ≡ record { answer = record { number = 11; count = 0 }; lent = replicate 139 7 }
    ∷ record { answer = record { number = 0; count = 140 }; lent = di_admitted }
    ∷ record { answer = record { number = 0; count = 140 }; lent = di_admitted ++ 7 ∷ 7 ∷ [] }
    ∷ []
unfolding answered di_admitted cell_after every_below lowest_below
buffers = refl

-- ---- refusals in their order

-- the number, with a buffer that takes every such book
number_of : Bytes → Bytes → Bytes → ℕ
unfolding newcomer_answer newcomer_causes new_book
number_of sheet book line =
    (newcomer_answer (record { sheet = sheet; book = book; line = line }) (replicate 200 7)).number

-- of the worked example, its book and a line
of_line : String → ℕ
unfolding number_of worked worked_book
of_line line = number_of worked worked_book (ascii line)

-- where a line feed stands before the end
feeds : map (λ line. feed_before_end (ascii line)) ("" ∷ "\n" ∷ "a" ∷ "a\n" ∷ "\n\n" ∷ "a\nb" ∷ "\na" ∷ [])
    ≡ false ∷ false ∷ false ∷ false ∷ true ∷ true ∷ true ∷ []
feeds = refl

-- a line of no bytes, without its line feed, with one too many before or behind, of two lines, with a carriage return,
-- and with a space is a 2; an empty line, an empty name and one of 17 bytes a 5; a cell too few and one too many a 6; a
-- cell that is no bit a 7. Then the name: taken, in whatever case
lines : map of_line
    ("" ∷ "di,1,1,0" ∷ "\ndi,1,1,0\n" ∷ "di,1,1,0\n\n" ∷ "di,1,1,0\ned,1,1,0\n" ∷ "di,1,1,0\r\n" ∷ "d i,1,1,0\n"
    ∷ "\n" ∷ ",1,1,0\n" ∷ "abcdefghijklmnopq,1,1,0\n"
    ∷ "di,1,1\n" ∷ "di,1,1,0,0\n" ∷ "di,1,1,2\n"
    ∷ "cy,1,1,0\n" ∷ "CY,1,1,0\n" ∷ "rec,1,1,0\n" ∷ "abcdefghijklmnop,1,1,0\n" ∷ [])
    ≡ 2 ∷ 2 ∷ 2 ∷ 2 ∷ 2 ∷ 2 ∷ 2 ∷ 5 ∷ 5 ∷ 5 ∷ 6 ∷ 6 ∷ 7 ∷ 17 ∷ 17 ∷ 0 ∷ 0 ∷ []
unfolding of_line cell_after every_below lowest_below
lines = refl

-- the causes in their order
order : map (λ cause. cause.number) (newcomer_causes (record { sheet = []; book = []; line = [] }) [])
    ≡ 1 ∷ 2 ∷ 3 ∷ 4 ∷ 5 ∷ 6 ∷ 7 ∷ 8 ∷ 9 ∷ 1 ∷ 2 ∷ 5 ∷ 6 ∷ 7 ∷ 9 ∷ 12 ∷ 13 ∷ 14 ∷ 15 ∷ 17 ∷ 18 ∷ 19 ∷ 11 ∷ []
unfolding newcomer_causes
order = refl

-- the given sheet is judged by itself: one that only the line would end, and one with no user but the newcomer. The
-- book is judged for the given sheet: the new book is none for it
given_first : number_of (ascii "user,p\nann,") [] (ascii "1\n") ∷ number_of (ascii "user,p\n") [] (ascii "ann,1\n")
    ∷ number_of worked di_admitted (ascii "di,1,1,0\n") ∷ []
    ≡ 2 ∷ 4 ∷ 12 ∷ []
unfolding number_of worked di_admitted cell_after every_below lowest_below
given_first = refl

-- of two neighbours the first is answered: the sheet's 2 to 8 before the line's 2; the line's 2, 5, 6 and 7 each before
-- the next; 7 before the book's 12; 12, 13, 14 and 15 before 17, each with a name that is taken
neighbours :
    map (λ sheet. number_of (ascii sheet) [] (ascii "di,1")) ("user,a\nx,1" ∷ "user,a,b\nx,1\n" ∷ "user,a\nx,1\nX,1\n" ∷
    [])
    ++ map of_line (",1,1" ∷ ",1,2\n" ∷ "di,1,2\n" ∷ [])
    ++ map (λ line. number_of worked [] (ascii line)) ("di,1,1,2\n" ∷ "cy,1,1,0\n" ∷ [])
    ++ map (λ book. number_of worked book (ascii "cy,1,1,0\n"))
    (book_of "2,1,witnessed" roles users two
    ∷ book_of "2,2,witnessed" "role,rec,id,map\nR1,1,1,0\nR2,0,0,1\n" users two
    ∷ book_of "2,2,witnessed" roles users "ann,map\nbo,map\n" ∷ [])
    ≡ 2 ∷ 6 ∷ 8 ∷ 2 ∷ 5 ∷ 6 ∷ 7 ∷ 12 ∷ 13 ∷ 14 ∷ 15 ∷ []
unfolding number_of of_line worked roles users two book_of cell_after every_below lowest_below
neighbours = refl

-- 18 with 256 users and not with 255
crowd : ℕ → Bool
unfolding users_at_limit user_limit
crowd count =
    let sheet : Bytes = ascii "user,a\n" ++ concat (replicate count (ascii "x,0\n")) in
    users_at_limit (record { sheet = sheet; book = []; line = [] })

crowds : map crowd (255 ∷ 256 ∷ []) ≡ false ∷ true ∷ []
unfolding crowd
crowds = refl

-- 19 where a new role would be number 129: with 128 roles, and something left over. With 127 it is number 128, and with
-- nothing left over there is none. 19 is judged before 11: no byte is lent
with_roles : ℕ → String → ℕ
unfolding newcomer_answer newcomer_causes new_book decimal role_name
with_roles count line =
    let book : Bytes =
    ascii "roles,bound,state\n" ++ decimal count ++ ascii ",0,open\n\nrole,a\n"
    ++ concat (list_of count (λ r. role_name r ++ ascii ",0\n")) ++ ascii "\nuser"
    ++ concat (list_of count (λ r. ascii "," ++ role_name r)) ++ ascii "\nx" ++ concat (replicate count (ascii ",0"))
    ++ ascii "\n\nuser,permission\n" in
    (newcomer_answer (record { sheet = ascii "user,a\nx,0\n"; book = book; line = ascii line }) []).number

last_role : with_roles 128 "y,1\n" ∷ with_roles 127 "y,1\n" ∷ with_roles 128 "y,0\n" ∷ with_roles 128 "X,1\n" ∷ []
    ≡ 19 ∷ 11 ∷ 11 ∷ 17 ∷ []
unfolding with_roles role_limit cell_after every_below lowest_below
last_role = refl
