-- Good and damaged books at the checker, computed from the definitions: for each cause of 12 to 15, and each line of
-- the form.
use Prim.Native.String.{String}
use Rattle.std.specs.Prelude.{refl, ◌≡◌, ◌∷◌, ◌++◌}
use Rattle.spec.specs.Vocabulary.{ℕ, Bool, true, false, List, [], map, every_below}
use Rattle.spec.specs.Vocabulary.{lowest_below, list_of}
use Rattle.spec.specs.Limits.{permission_limit, role_limit}
use Rattle.spec.specs.Text.{Bytes, ascii}
use Rattle.spec.specs.RoleSet.{cell_after}
use Rattle.spec.specs.Book.{role_name}
use Rattle.spec.specs.Form.{roles_form}
use Rattle.spec.specs.Calls.{CheckAnswer, check}

-- the four blocks of a book for the worked example's sheet, the first as two lines
record Parts : Type 0 where
  heading : String
  counts : String
  roles : String
  users : String
  witness : String

worked : Bytes
worked = ascii "user,rec,id,map\nann,1,1,0\nbo,0,1,1\ncy,1,1,1\n"

checked : Parts → CheckAnswer
unfolding worked check
checked parts =
    check worked
    (ascii parts.heading ++ ascii "\n" ++ ascii parts.counts ++ ascii "\n\n" ++ ascii parts.roles ++ ascii
    "\n\n"
    ++ ascii parts.users ++ ascii "\n\n" ++ ascii parts.witness)

-- the book that the program writes, and others with another block in its place
roles : String
roles = "role,rec,id,map\nR1,1,1,0\nR2,0,1,1"

users : String
users = "user,R1,R2\nann,1,0\nbo,0,1\ncy,1,1"

two : String
two = "user,permission\nann,rec\nbo,map\n"

one : String
one = "user,permission\nbo,map\n"

with_counts : String → String → Parts
unfolding roles users
with_counts counts witness =
    record { heading = "roles,bound,state"; counts = counts; roles = roles; users = users; witness = witness }

with_roles : String → Parts
unfolding users two
with_roles roles =
    record { heading = "roles,bound,state"; counts = "2,2,witnessed"; roles = roles; users = users; witness = two }

with_users : String → Parts
unfolding roles two
with_users users =
    record { heading = "roles,bound,state"; counts = "2,2,witnessed"; roles = roles; users = users; witness = two }

with_witness : String → Parts
unfolding with_counts
with_witness witness = with_counts "2,2,witnessed" witness

-- the numbers that some books get
numbers : List Parts → List ℕ
unfolding checked
numbers books = map (λ parts. (checked parts).number) books

-- as the program writes it, witness lines in another order, `searched` and `open` with fewer lines than roles
good : map checked
    (with_counts "2,2,witnessed" two ∷ with_witness "user,permission\nbo,map\nann,rec\n" ∷ with_counts "2,2,searched"
    one
    ∷ with_counts "2,1,open" one ∷ [])
    ≡ record { number = 0; roles = 2; witness_lines = 2 } ∷ record { number = 0; roles = 2; witness_lines = 2 }
    ∷ record { number = 0; roles = 2; witness_lines = 1 } ∷ record { number = 0; roles = 2; witness_lines = 1 } ∷ []
unfolding checked with_counts with_witness two one cell_after every_below lowest_below
good = refl

with_heading : String → Parts
unfolding roles users two
with_heading heading =
    record { heading = heading; counts = "2,2,witnessed"; roles = roles; users = users; witness = two }

-- block 1: another heading
heading_off : numbers (with_heading "roles,bound,state" ∷ with_heading "role,bound,state" ∷ with_heading "roles,bound"
    ∷ []) ≡ 0 ∷ 12 ∷ 12 ∷ []
unfolding numbers with_heading cell_after every_below lowest_below
heading_off = refl

-- block 1: a leading zero in either count, no state word, a field too few and one too many, a line more
counts_off : numbers
    (with_counts "02,2,witnessed" two ∷ with_counts "2,02,witnessed" two ∷ with_counts "2,2,closed" two ∷ with_counts
    "2,2" two
    ∷ with_counts "2,2,witnessed,2" two ∷ with_counts "2,2,witnessed\n2" two ∷ [])
    ≡ 12 ∷ 12 ∷ 12 ∷ 12 ∷ 12 ∷ 12 ∷ []
unfolding numbers with_counts two cell_after every_below lowest_below
counts_off = refl

-- block 2: another heading, permissions in another order, no role of that number, a line too short, a cell that is no
-- bit
roles_off : numbers
    (with_roles "user,rec,id,map\nR1,1,1,0\nR2,0,1,1" ∷ with_roles "role,id,rec,map\nR1,1,1,0\nR2,0,1,1"
    ∷ with_roles "role,rec,id,map\nR2,1,1,0\nR1,0,1,1" ∷ with_roles "role,rec,id,map\nR1,1,1\nR2,0,1,1"
    ∷ with_roles "role,rec,id,map\nR1,1,1,2\nR2,0,1,1" ∷ [])
    ≡ 12 ∷ 12 ∷ 12 ∷ 12 ∷ 12 ∷ []
unfolding numbers with_roles cell_after every_below lowest_below
roles_off = refl

-- 128 roles are of the form, 129 are not
many_roles : ℕ → Bool
unfolding roles_form
many_roles count =
    roles_form (record { users = []; permissions = []; rows = [] }) ((ascii "role" ∷ []) ∷ list_of count
    (λ r. role_name r ∷ []))

role_limits : map many_roles (128 ∷ 129 ∷ []) ≡ true ∷ false ∷ []
unfolding many_roles role_limit permission_limit role_name every_below
role_limits = refl

-- block 3: another heading, roles in another order, users in another order, one missing, one more, a line too long, a
-- cell that is no bit
users_off : numbers
    (with_users "role,R1,R2\nann,1,0\nbo,0,1\ncy,1,1" ∷ with_users "user,R2,R1\nann,1,0\nbo,0,1\ncy,1,1"
    ∷ with_users "user,R1,R2\nbo,0,1\nann,1,0\ncy,1,1" ∷ with_users "user,R1,R2\nann,1,0\nbo,0,1"
    ∷ with_users "user,R1,R2\nann,1,0\nbo,0,1\ncy,1,1\ndi,0,0" ∷ with_users "user,R1,R2\nann,1,0,0\nbo,0,1\ncy,1,1"
    ∷ with_users "user,R1,R2\nann,1,2\nbo,0,1\ncy,1,1" ∷ [])
    ≡ 12 ∷ 12 ∷ 12 ∷ 12 ∷ 12 ∷ 12 ∷ 12 ∷ []
unfolding numbers with_users cell_after every_below lowest_below
users_off = refl

-- block 4: another heading, names exchanged, a name that is only a user's and one that is only a permission's, a field
-- too many, no line feed at the end, an empty line at the end
witness_off : numbers
    (with_witness "user,role\nann,rec\nbo,map\n" ∷ with_witness "user,permission\nrec,ann\nbo,map\n"
    ∷ with_witness "user,permission\nann,ann\nbo,map\n" ∷ with_witness "user,permission\nrec,rec\nbo,map\n"
    ∷ with_witness "user,permission\nann,rec,1\nbo,map\n" ∷ with_witness "user,permission\nann,rec\nbo,map"
    ∷ with_witness "user,permission\nann,rec\nbo,map\n\n" ∷ [])
    ≡ 12 ∷ 12 ∷ 12 ∷ 12 ∷ 12 ∷ 12 ∷ 12 ∷ []
unfolding numbers with_witness cell_after every_below lowest_below
witness_off = refl

-- the blocks 2, 3 and 4 of the book with every name in other case than the sheet's, each in its own way, and a book of
-- three such blocks
other_roles : String
other_roles = "role,REC,Id,mAP\nR1,1,1,0\nR2,0,1,1"

other_users : String
other_users = "user,R1,R2\nANN,1,0\nBo,0,1\ncY,1,1"

other_two : String
other_two = "user,permission\nAnn,Rec\nBO,MAP\n"

in_other_case : String → String → String → Parts
in_other_case roles users witness =
    record { heading = "roles,bound,state"; counts = "2,2,witnessed"; roles = roles; users = users; witness = witness }

-- it is right; and so is one with the sheet's spelling but for two names of block 4
other_case : map checked
    (in_other_case other_roles other_users other_two ∷ with_witness "user,permission\naNN,rec\nbo,maP\n" ∷ [])
    ≡ record { number = 0; roles = 2; witness_lines = 2 } ∷ record { number = 0; roles = 2; witness_lines = 2 } ∷ []
unfolding checked in_other_case other_roles other_users other_two with_witness cell_after every_below lowest_below
other_case = refl

-- with one name misspelt it is not: a permission in block 2, a user in block 3, a user and a permission in block 4
misspelt : numbers
    (in_other_case "role,REC,1d,mAP\nR1,1,1,0\nR2,0,1,1" other_users other_two
    ∷ in_other_case other_roles "user,R1,R2\nANN,1,0\nBo,0,1\ncI,1,1" other_two
    ∷ in_other_case other_roles other_users "user,permission\nAnm,Rec\nBO,MAP\n"
    ∷ in_other_case other_roles other_users "user,permission\nAnn,Rec\nBO,MAQ\n" ∷ [])
    ≡ 12 ∷ 12 ∷ 12 ∷ 12 ∷ []
unfolding numbers in_other_case other_roles other_users other_two cell_after every_below lowest_below
misspelt = refl

-- a user and a permission of one name but for case, each found among its own
shared_name : check (ascii "user,ANN\nann,1\n")
    (ascii "roles,bound,state\n1,1,witnessed\n\nrole,ann\nR1,1\n\nuser,R1\nAnn,1\n\nuser,permission\nANN,ann\n")
    ≡ record { number = 0; roles = 1; witness_lines = 1 }
unfolding check cell_after every_below lowest_below
shared_name = refl

-- the sheet comes first: with `Ann` and `ann` in it, no book is looked at
sheet_first : (check (ascii "user,a\nAnn,1\nann,1\n") []).number ≡ 8
unfolding check
sheet_first = refl

-- the words of the form and the roles' names keep their case
words_off : numbers
    (with_heading "Roles,bound,state" ∷ with_heading "roles,Bound,state" ∷ with_heading "roles,bound,State"
    ∷ with_counts "2,2,Witnessed" two ∷ with_counts "2,2,Searched" one ∷ with_counts "2,1,OPEN" one
    ∷ with_roles "Role,rec,id,map\nR1,1,1,0\nR2,0,1,1"
    ∷ with_roles "role,rec,id,map\nr1,1,1,0\nR2,0,1,1" ∷ with_users "User,R1,R2\nann,1,0\nbo,0,1\ncy,1,1"
    ∷ with_users "user,r1,R2\nann,1,0\nbo,0,1\ncy,1,1" ∷ with_witness "User,permission\nann,rec\nbo,map\n"
    ∷ with_witness "user,Permission\nann,rec\nbo,map\n" ∷ [])
    ≡ 12 ∷ 12 ∷ 12 ∷ 12 ∷ 12 ∷ 12 ∷ 12 ∷ 12 ∷ 12 ∷ 12 ∷ 12 ∷ 12 ∷ []
unfolding numbers with_heading with_counts with_roles with_users with_witness two one cell_after every_below
    lowest_below
words_off = refl

-- counts that disagree: another number of roles; `witnessed` with another bound, and with fewer lines; `searched` with
-- as many lines as roles, and with another bound; `open` with another bound, and with as many lines as roles
counts_disagree : numbers
    (with_counts "3,2,witnessed" two ∷ with_counts "2,1,witnessed" two ∷ with_counts "2,2,witnessed" one ∷ with_counts
    "2,2,searched" two
    ∷ with_counts "2,1,searched" one ∷ with_counts "2,2,open" one ∷ with_counts "2,2,open" two ∷ [])
    ≡ 13 ∷ 13 ∷ 13 ∷ 13 ∷ 13 ∷ 13 ∷ 13 ∷ []
unfolding numbers with_counts two one cell_after every_below lowest_below
counts_disagree = refl

-- a permission too many, and one too few
product_differs : numbers
    (with_roles "role,rec,id,map\nR1,1,1,1\nR2,0,1,1" ∷ with_roles "role,rec,id,map\nR1,1,0,0\nR2,0,1,1" ∷ []) ≡ 14 ∷
    14 ∷ []
unfolding numbers with_roles cell_after every_below lowest_below
product_differs = refl

-- a grant that is not held, the same grant twice in one case and in two, two that fit
witness_fails : numbers
    (with_witness "user,permission\nann,map\nbo,map\n" ∷ with_witness "user,permission\nann,rec\nann,rec\n"
    ∷ with_witness "user,permission\nbo,map\nBO,MAP\n" ∷ with_witness "user,permission\nann,rec\ncy,rec\n" ∷ [])
    ≡ 15 ∷ 15 ∷ 15 ∷ 15 ∷ []
unfolding numbers with_witness cell_after every_below lowest_below
witness_fails = refl

-- three users each lacking only their own permission: with `z,b` the first and the last of three witness lines fit,
-- and no two neighbours
crown : String → CheckAnswer
unfolding check
crown last =
    check (ascii "user,a,b,c\nx,0,1,1\ny,1,0,1\nz,1,1,0\n")
    (ascii "roles,bound,state\n3,3,witnessed\n\nrole,a,b,c\nR1,1,0,0\nR2,0,1,0\nR3,0,0,1\n\n"
    ++ ascii "user,R1,R2,R3\nx,0,1,1\ny,1,0,1\nz,1,1,0\n\nuser,permission\nx,b\ny,c\n" ++ ascii last)

crowns : map (λ last. (crown last).number) ("z,a\n" ∷ "z,b\n" ∷ []) ≡ 0 ∷ 15 ∷ []
unfolding crown cell_after every_below lowest_below
crowns = refl
