-- "The sheet" and causes 1 to 9: which bytes are allowed, a sheet for each cause and its neighbours, and both sides of
-- each limit, computed from the definitions.
use Rattle.std.specs.Prelude.{refl, ◌≡◌, ◌∷◌, ◌++◌}
use Rattle.spec.specs.Vocabulary.{ℕ, true, false, [], map, replicate}
use Rattle.spec.specs.Vocabulary.{filter, list_from, list_of}
use Rattle.spec.specs.Text.{ascii, allowed_byte, lower, same_name}
use Rattle.spec.specs.Sheet.{Sheet}
use Rattle.spec.specs.Refusal.{too_long, bad_first_line, bad_line_count, has_name_length, too_many_grants}
use Rattle.spec.specs.Refusal.{refusal}

-- of all 256 bytes these are allowed
bytes : filter allowed_byte (list_of 256 (λ b. b))
    ≡ ascii "\n,-.0123456789ABCDEFGHIJKLMNOPQRSTUVWXYZ_abcdefghijklmnopqrstuvwxyz"
unfolding allowed_byte
bytes = refl

-- of all 256 bytes only `A-Z` are read as others, as `a-z`
letters : map lower (list_of 256 (λ b. b))
    ≡ list_of 65 (λ b. b) ++ ascii "abcdefghijklmnopqrstuvwxyz" ++ list_from 91 165 (λ b. b)
unfolding lower
letters = refl

-- names that are equal: the same bytes, one letter in other case, all in other case, with digits and signs between,
-- and as long as a name can be. Names that are not: one byte more, another letter, another last one of 16, and bytes
-- that differ by 32, as `A` and `a` do, but are no letters: `_` and 127, `-` and 13, `0` and 16
equal_names :
    same_name (ascii "ann") (ascii "ann")
    ∷ same_name (ascii "Ann") (ascii "ann")
    ∷ same_name (ascii "ann") (ascii "ANN")
    ∷ same_name (ascii "aB-1.c_Z") (ascii "Ab-1.C_z")
    ∷ same_name (ascii "abcdefghijklmnop") (ascii "abcdefghijklmnoP")
    ∷ same_name (ascii "ann") (ascii "anne")
    ∷ same_name (ascii "ann") (ascii "amn")
    ∷ same_name (ascii "abcdefghijklmnop") (ascii "abcdefghijklmnoQ")
    ∷ same_name (ascii "_") (127 ∷ [])
    ∷ same_name (ascii "-") (13 ∷ [])
    ∷ same_name (ascii "0") (16 ∷ [])
    ∷ []
    ≡ true ∷ true ∷ true ∷ true ∷ true ∷ false ∷ false ∷ false ∷ false ∷ false ∷ false ∷ []
unfolding lower
equal_names = refl

-- accepted: a user and a permission share a name, the same in other case, nobody holds anything. 2: no line feed at the
-- end, a byte that is not allowed. 3: an empty line, another word, the word in other case, no permission. 4: no user
-- line, though a name is empty too. 5: an empty line among the users, an empty permission name, an empty user name. 6:
-- a line too short, one too long. 7: another digit, an empty field, two digits. 8: a user twice, a permission twice,
-- a user twice but for case and a permission so, with others between. Last, the lowest of several: 6 before 7 and 8,
-- 2 before 3
refusals : map refusal
    (ascii "user,x\nx,1\n" ∷ ascii "user,ANN\nann,1\n" ∷ ascii "user,a\nx,0\n"
    ∷ ascii "user,a\nx,1" ∷ ascii "user,a\nx,1;\n"
    ∷ ascii "\n" ∷ ascii "users,a\nx,1\n" ∷ ascii "USER,a\nx,1\n" ∷ ascii "user\nx\n"
    ∷ ascii "user,a\n" ∷ ascii "user,\n"
    ∷ ascii "user,a\n\n" ∷ ascii "user,\nx,1\n" ∷ ascii "user,a\n,1\n"
    ∷ ascii "user,a\nx\n" ∷ ascii "user,a\nx,1,0\n"
    ∷ ascii "user,a\nx,2\n" ∷ ascii "user,a\nx,\n" ∷ ascii "user,a\nx,01\n"
    ∷ ascii "user,a\nx,1\nx,0\n" ∷ ascii "user,a,a\nx,1,0\n"
    ∷ ascii "user,a\nAnn,1\nx,1\nann,0\n" ∷ ascii "user,id,a,Id\nx,1,0,1\n"
    ∷ ascii "user,a\nx,2,1\nx,0\n" ∷ ascii "users,a\nx,1\n " ∷ [])
    ≡ 0 ∷ 0 ∷ 0 ∷ 2 ∷ 2 ∷ 3 ∷ 3 ∷ 3 ∷ 3 ∷ 4 ∷ 4 ∷ 5 ∷ 5 ∷ 5 ∷ 6 ∷ 6 ∷ 7 ∷ 7 ∷ 7 ∷ 8 ∷ 8 ∷ 8 ∷ 8 ∷ 6 ∷ 2 ∷ []
unfolding refusal
refusals = refl

-- a sheet of so many full rows of 128, and a last row of so many ones
full : ℕ → ℕ → Sheet
full rows ones =
    record { users = []; permissions = []; rows = replicate rows (replicate 128 true) ++ replicate ones true ∷ [] }

-- whether each limit is passed at the limit and one beyond: 128 permissions, 256 users, 16 bytes of a name, 2,048
-- grants
limits :
    bad_first_line ((ascii "user" ∷ replicate 128 (ascii "a")) ∷ [])
    ∷ bad_first_line ((ascii "user" ∷ replicate 129 (ascii "a")) ∷ [])
    ∷ bad_line_count ([] ∷ replicate 256 [])
    ∷ bad_line_count ([] ∷ replicate 257 [])
    ∷ has_name_length (replicate 16 0)
    ∷ has_name_length (replicate 17 0)
    ∷ too_many_grants (full 15 128)
    ∷ too_many_grants (full 16 1)
    ∷ []
    ≡ false ∷ true ∷ false ∷ true ∷ true ∷ false ∷ false ∷ true ∷ []
unfolding bad_first_line bad_line_count has_name_length too_many_grants full
limits = refl

-- 65,536 bytes; a longer sheet is a 1 whatever else it breaks
long : too_long (replicate 65_536 0) ∷ too_long (replicate 65_537 0) ∷ [] ≡ false ∷ true ∷ []
unfolding too_long
long = refl

first_of_all : refusal (replicate 65_537 0) ≡ 1
unfolding refusal
first_of_all = refl
