-- One change in a sheet, computed from the definitions: smallest role counts of one user's sheets; which sheets differ
-- only in one user's line or only in one permission's column, and the role counts that their books print: one more, one
-- fewer, as many; two books that one session brought out.
use Rattle.std.proofs.Common.{arith, sym, ap, ◌∙◌, inl, inr}
use Rattle.std.specs.Prelude.{refl, ◌≤◌, ◌<◌, ◌≡◌, ◌≢◌, ◌∷◌, ◌++◌}
use Rattle.std.proofs.lemmas.Bool.{false≢true}
use Rattle.spec.specs.Vocabulary.{ℕ, zero, suc, Bool, true, false, List, [], drop}
use Rattle.spec.specs.Vocabulary.{length, get_or, replicate, every_below, lowest_below}
use Rattle.spec.specs.Text.{Bytes, ascii, lower, text_of}
use Rattle.spec.specs.Sheet.{sheet_of, holds}
use Rattle.spec.specs.Machine.{search}
use Rattle.spec.specs.RoleSet.{RoleSet, cell_after, product, Multiplies}
use Rattle.spec.specs.Admitted.{AtLeast}
use Rattle.spec.specs.Roles.{witnessed, searched, kernel_of, start_of}
use Rattle.spec.specs.Decimal.{decimal}
use Rattle.spec.specs.Book.{counts_block, book}
use Rattle.spec.specs.Session.{Session, fresh, session_book}
use Rattle.spec.specs.Refusal.{refusal, write_causes}
use Rattle.spec.specs.Calls.{load_answer, after_load, reduce_answer, after_reduce, searched_on, after_search}
use Rattle.spec.specs.Calls.{write_answer, buffer_after}
use Rattle.spec.specs.Sequence.{load, reduce, write, WriteOutcome, Event}
use Rattle.spec.specs.OneChange.{SmallestCount, OnlyInLine, OnlyInColumn, AtMostOneApart, OnlyUserMoved}
use Rattle.spec.specs.OneChange.{OnlyPermissionMoved, PrintsAsSmallest, BroughtOut, NumbersOneApart}

-- the book of a sheet that was loaded, reduced and searched within a budget
book_of : Bytes → ℕ → Bytes
unfolding session_book after_load after_reduce after_search searched_on refusal sheet_of start_of kernel_of book decimal
book_of text budget = session_book (after_search (after_reduce (after_load fresh text)) budget)

-- a book whose first two lines, of 32 bytes, say `witnessed` with this role count
witnessed_at : (count : ℕ) (book : Bytes) → book ≡ text_of (counts_block count count witnessed) ++ drop 32 book
    → PrintsAsSmallest book count
witnessed_at count book spelled =
    record {
      bound = count;
      word = witnessed;
      prints = record { later = drop 32 book; spelled = spelled };
      claimed = inl refl;
    }

-- ---- smallest role counts

-- one user who holds nothing, and who holds the first of two permissions
nothing : Bytes
nothing = ascii "user,p,q\na,0,0\n"

first_held : Bytes
first_held = ascii "user,p,q\na,1,0\n"

-- no role; and one role, which every user has, of the first permission
no_role : RoleSet
no_role = record { count = 0; has = λ u r. false; gives = λ r p. false }

is_first : ℕ → Bool
is_first zero = true
is_first (suc p) = false

first_role : RoleSet
first_role = record { count = 1; has = λ u r. true; gives = λ r. is_first }

no_role_needed : SmallestCount 0 (sheet_of nothing)
unfolding nothing sheet_of no_role product cell_after
no_role_needed =
    record {
      roles = no_role;
      product = record { cell = cells };
      counted = refl;
      none_fewer = λ roles multiplies. omega arith;
    }
  where
    cells : (u p : ℕ) → u < 1 → p < 2 → product no_role u p ≡ holds (sheet_of nothing) u p
    cells zero zero k l = refl
    cells zero (suc zero) k l = refl
    cells zero (suc (suc p)) k l = refl
    cells (suc u) p k l = refl

first_role_multiplies : Multiplies first_role (sheet_of first_held)
unfolding first_held sheet_of first_role is_first product cell_after
first_role_multiplies = record { cell = cells }
  where
    cells : (u p : ℕ) → u < 1 → p < 2 → product first_role u p ≡ holds (sheet_of first_held) u p
    cells zero zero k l = refl
    cells zero (suc zero) k l = refl
    cells zero (suc (suc p)) k l = refl
    cells (suc u) p k l = absurd (omega arith)

one_role_needed : SmallestCount 1 (sheet_of first_held)
unfolding first_held sheet_of first_role product cell_after
one_role_needed = record { roles = first_role; product = first_role_multiplies; counted = refl; none_fewer = some_role }
  where
    some_role : AtLeast 1 (sheet_of first_held)
    some_role roles multiplies = count_is roles.count refl
      where
        count_is : (n : ℕ) → roles.count ≡ n → 1 ≤ n
        count_is zero e =
            absurd (false≢true
            (sym (ap (λ n. cell_after roles 0 0 n) e) ∙ multiplies.cell 0 0 (omega arith) (omega arith)))
        count_is (suc n) e = omega arith

-- one role is enough, so 2 is not the smallest
not_two : SmallestCount 2 (sheet_of first_held) → ⊥
unfolding first_role
not_two two = omega (arith, two.none_fewer first_role first_role_multiplies)

-- the two sheets differ only in the one line, and only in the first column
line_of_a : OnlyInLine 0 (sheet_of nothing) (sheet_of first_held)
unfolding nothing first_held sheet_of
line_of_a = record { same_names = record { permissions = refl; users = refl }; same_cells = same }
  where
    same : (v p : ℕ) → v < 1 → p < 2 → v ≢ 0 → holds (sheet_of nothing) v p ≡ holds (sheet_of first_held) v p
    same zero p k l other = absurd (other refl)
    same (suc v) p k l other = refl

column_of_p : OnlyInColumn 0 (sheet_of nothing) (sheet_of first_held)
unfolding nothing first_held sheet_of
column_of_p = record { same_names = record { permissions = refl; users = refl }; same_cells = same }
  where
    same : (u q : ℕ) → u < 1 → q < 2 → q ≢ 0 → holds (sheet_of nothing) u q ≡ holds (sheet_of first_held) u q
    same u zero k l other = absurd (other refl)
    same zero (suc q) k l other = refl
    same (suc u) (suc q) k l other = refl

none_printed : PrintsAsSmallest (book_of nothing 0) 0
unfolding book_of nothing every_below lowest_below search
none_printed = witnessed_at 0 (book_of nothing 0) refl

one_printed : PrintsAsSmallest (book_of first_held 0) 1
unfolding book_of first_held every_below lowest_below search
one_printed = witnessed_at 1 (book_of first_held 0) refl

-- 2 and 4 are not at most 1 apart, in either order
two_apart : (AtMostOneApart 2 4 → ⊥) × (AtMostOneApart 4 2 → ⊥)
two_apart = (λ h. omega (arith, h.1), λ h. omega (arith, h.0))

-- ---- one user's line

-- the worked example, and cy's line changed: `id` taken away; everything taken away, with names in other case
worked : Bytes
worked = ascii "user,rec,id,map\nann,1,1,0\nbo,0,1,1\ncy,1,1,1\n"

without_id : Bytes
without_id = ascii "user,rec,id,map\nann,1,1,0\nbo,0,1,1\ncy,1,0,1\n"

with_none : Bytes
with_none = ascii "user,REC,id,map\nANN,1,1,0\nbo,0,1,1\nCy,0,0,0\n"

line_of_cy : OnlyInLine 2 (sheet_of worked) (sheet_of without_id)
unfolding worked without_id sheet_of
line_of_cy = record { same_names = record { permissions = refl; users = refl }; same_cells = same }
  where
    same : (v p : ℕ) → v < 3 → p < 3 → v ≢ 2 → holds (sheet_of worked) v p ≡ holds (sheet_of without_id) v p
    same zero p k l other = refl
    same (suc zero) p k l other = refl
    same (suc (suc zero)) p k l other = absurd (other refl)
    same (suc (suc (suc v))) p k l other = refl

line_of_cy_again : OnlyInLine 2 (sheet_of worked) (sheet_of with_none)
unfolding worked with_none sheet_of lower
line_of_cy_again = record { same_names = record { permissions = refl; users = refl }; same_cells = same }
  where
    same : (v p : ℕ) → v < 3 → p < 3 → v ≢ 2 → holds (sheet_of worked) v p ≡ holds (sheet_of with_none) v p
    same zero p k l other = refl
    same (suc zero) p k l other = refl
    same (suc (suc zero)) p k l other = absurd (other refl)
    same (suc (suc (suc v))) p k l other = refl

-- they do not differ only in bo's line
not_of_bo : OnlyInLine 1 (sheet_of worked) (sheet_of without_id) → ⊥
unfolding worked without_id sheet_of
not_of_bo only = false≢true (sym (only.same_cells 2 1 (omega arith) (omega arith) (λ e. omega (arith, e))))

-- two roles; one more with `id` taken away from cy; as many with everything taken away
worked_printed : PrintsAsSmallest (book_of worked 0) 2
unfolding book_of worked every_below lowest_below search
worked_printed = witnessed_at 2 (book_of worked 0) refl

one_more : PrintsAsSmallest (book_of without_id 0) 3
unfolding book_of without_id every_below lowest_below search
one_more = witnessed_at 3 (book_of without_id 0) refl

as_many : PrintsAsSmallest (book_of with_none 0) 2
unfolding book_of with_none every_below lowest_below search
as_many = witnessed_at 2 (book_of with_none 0) refl

-- ---- by a search

-- four users of whom each lacks one permission: `searched`, once enough budget was given. With the last one lacking
-- none there is one role fewer, and no search is needed
four : Bytes
four = ascii "user,p,q,r,s\na,0,1,1,1\nb,1,0,1,1\nc,1,1,0,1\nd,1,1,1,0\n"

four_with_all : Bytes
four_with_all = ascii "user,p,q,r,s\na,0,1,1,1\nb,1,0,1,1\nc,1,1,0,1\nd,1,1,1,1\n"

line_of_d : OnlyInLine 3 (sheet_of four) (sheet_of four_with_all)
unfolding four four_with_all sheet_of
line_of_d = record { same_names = record { permissions = refl; users = refl }; same_cells = same }
  where
    same : (v p : ℕ) → v < 4 → p < 4 → v ≢ 3 → holds (sheet_of four) v p ≡ holds (sheet_of four_with_all) v p
    same zero p k l other = refl
    same (suc zero) p k l other = refl
    same (suc (suc zero)) p k l other = refl
    same (suc (suc (suc zero))) p k l other = absurd (other refl)
    same (suc (suc (suc (suc v)))) p k l other = refl

four_printed : PrintsAsSmallest (book_of four 200) 4
unfolding book_of four every_below lowest_below search
four_printed =
    record {
      bound = 4;
      word = searched;
      prints = record { later = drop 31 (book_of four 200); spelled = refl };
      claimed = inr refl;
    }

one_fewer : PrintsAsSmallest (book_of four_with_all 0) 3
unfolding book_of four_with_all every_below lowest_below search
one_fewer = witnessed_at 3 (book_of four_with_all 0) refl

-- ---- one permission's column

-- the worked example with `id` held by bo alone: one role more; and from there, with `id` held by nobody: one fewer
id_of_bo : Bytes
id_of_bo = ascii "user,rec,id,map\nann,1,0,0\nbo,0,1,1\ncy,1,0,1\n"

id_of_nobody : Bytes
id_of_nobody = ascii "user,rec,id,map\nann,1,0,0\nbo,0,0,1\ncy,1,0,1\n"

column_of_id : OnlyInColumn 1 (sheet_of worked) (sheet_of id_of_bo)
unfolding worked id_of_bo sheet_of
column_of_id = record { same_names = record { permissions = refl; users = refl }; same_cells = same }
  where
    same : (u q : ℕ) → u < 3 → q < 3 → q ≢ 1 → holds (sheet_of worked) u q ≡ holds (sheet_of id_of_bo) u q
    same u (suc zero) k l other = absurd (other refl)
    same zero zero k l other = refl
    same (suc zero) zero k l other = refl
    same (suc (suc zero)) zero k l other = refl
    same (suc (suc (suc u))) zero k l other = refl
    same zero (suc (suc q)) k l other = refl
    same (suc zero) (suc (suc q)) k l other = refl
    same (suc (suc zero)) (suc (suc q)) k l other = refl
    same (suc (suc (suc u))) (suc (suc q)) k l other = refl

column_of_id_again : OnlyInColumn 1 (sheet_of id_of_bo) (sheet_of id_of_nobody)
unfolding id_of_bo id_of_nobody sheet_of
column_of_id_again = record { same_names = record { permissions = refl; users = refl }; same_cells = same }
  where
    same : (u q : ℕ) → u < 3 → q < 3 → q ≢ 1 → holds (sheet_of id_of_bo) u q ≡ holds (sheet_of id_of_nobody) u q
    same u (suc zero) k l other = absurd (other refl)
    same zero zero k l other = refl
    same (suc zero) zero k l other = refl
    same (suc (suc zero)) zero k l other = refl
    same (suc (suc (suc u))) zero k l other = refl
    same zero (suc (suc q)) k l other = refl
    same (suc zero) (suc (suc q)) k l other = refl
    same (suc (suc zero)) (suc (suc q)) k l other = refl
    same (suc (suc (suc u))) (suc (suc q)) k l other = refl

-- they do not differ only in the column of `map`
not_of_map : OnlyInColumn 2 (sheet_of worked) (sheet_of id_of_bo) → ⊥
unfolding worked id_of_bo sheet_of
not_of_map only = false≢true (sym (only.same_cells 0 1 (omega arith) (omega arith) (λ e. omega (arith, e))))

one_more_by_column : PrintsAsSmallest (book_of id_of_bo 0) 3
unfolding book_of id_of_bo every_below lowest_below search
one_more_by_column = witnessed_at 3 (book_of id_of_bo 0) refl

one_fewer_by_column : PrintsAsSmallest (book_of id_of_nobody 0) 2
unfolding book_of id_of_nobody every_below lowest_below search
one_fewer_by_column = witnessed_at 2 (book_of id_of_nobody 0) refl

-- `map` of the worked example with nobody: as many
map_of_nobody : Bytes
map_of_nobody = ascii "user,rec,id,map\nann,1,1,0\nbo,0,1,0\ncy,1,1,0\n"

column_of_map : OnlyInColumn 2 (sheet_of worked) (sheet_of map_of_nobody)
unfolding worked map_of_nobody sheet_of
column_of_map = record { same_names = record { permissions = refl; users = refl }; same_cells = same }
  where
    same : (u q : ℕ) → u < 3 → q < 3 → q ≢ 2 → holds (sheet_of worked) u q ≡ holds (sheet_of map_of_nobody) u q
    same u (suc (suc zero)) k l other = absurd (other refl)
    same zero zero k l other = refl
    same (suc zero) zero k l other = refl
    same (suc (suc zero)) zero k l other = refl
    same (suc (suc (suc u))) zero k l other = refl
    same zero (suc zero) k l other = refl
    same (suc zero) (suc zero) k l other = refl
    same (suc (suc zero)) (suc zero) k l other = refl
    same (suc (suc (suc u))) (suc zero) k l other = refl
    same u (suc (suc (suc q))) k l other = absurd (omega arith)

as_many_by_column : PrintsAsSmallest (book_of map_of_nobody 0) 2
unfolding book_of map_of_nobody every_below lowest_below search
as_many_by_column = witnessed_at 2 (book_of map_of_nobody 0) refl

-- ---- who moved

-- two matrices as a role set: the roles of each user, and the permissions of each role
role_set_of : List (List Bool) → List (List Bool) → RoleSet
role_set_of has gives =
    record {
      count = length gives;
      has = λ u r. get_or (get_or has u []) r false;
      gives = λ r p. get_or (get_or gives r []) p false;
    }

-- the roles of the worked example; those with `id` taken away from cy, who has a role of their own then; and those with
-- `id` taken out of all roles and given to bo in a new one
worked_roles : RoleSet
unfolding role_set_of
worked_roles =
    role_set_of ((true ∷ false ∷ []) ∷ (false ∷ true ∷ []) ∷ (true ∷ true ∷ []) ∷ [])
    ((true ∷ true ∷ false ∷ []) ∷ (false ∷ true ∷ true ∷ []) ∷ [])

cy_moved : RoleSet
unfolding role_set_of
cy_moved =
    role_set_of
    ((true ∷ false ∷ false ∷ []) ∷ (false ∷ true ∷ false ∷ []) ∷ (false ∷ false ∷ true ∷ []) ∷ [])
    ((true ∷ true ∷ false ∷ []) ∷ (false ∷ true ∷ true ∷ []) ∷ (true ∷ false ∷ true ∷ []) ∷ [])

id_moved : RoleSet
unfolding role_set_of
id_moved =
    role_set_of
    ((true ∷ false ∷ false ∷ []) ∷ (false ∷ true ∷ true ∷ []) ∷ (true ∷ true ∷ false ∷ []) ∷ [])
    ((true ∷ false ∷ false ∷ []) ∷ (false ∷ false ∷ true ∷ []) ∷ (false ∷ true ∷ false ∷ []) ∷ [])

only_cy : OnlyUserMoved 2 worked_roles cy_moved
unfolding worked_roles cy_moved
only_cy =
    record {
      no_fewer = omega arith;
      at_most_one_more = omega arith;
      same_roles = roles;
      same_permissions = permissions;
      new_is_theirs = new;
    }
  where
    roles : (v r : ℕ) → v ≢ 2 → r < 2 → cy_moved.has v r ≡ worked_roles.has v r
    roles (suc (suc zero)) r other l = absurd (other refl)
    roles zero zero other l = refl
    roles zero (suc zero) other l = refl
    roles (suc zero) zero other l = refl
    roles (suc zero) (suc zero) other l = refl
    roles (suc (suc (suc v))) zero other l = refl
    roles (suc (suc (suc v))) (suc zero) other l = refl
    roles zero (suc (suc r)) other l = absurd (omega arith)
    roles (suc zero) (suc (suc r)) other l = absurd (omega arith)
    roles (suc (suc (suc v))) (suc (suc r)) other l = absurd (omega arith)

    permissions : (r p : ℕ) → r < 2 → cy_moved.gives r p ≡ worked_roles.gives r p
    permissions zero p l = refl
    permissions (suc zero) p l = refl
    permissions (suc (suc r)) p l = absurd (omega arith)

    new : (v r : ℕ) → v ≢ 2 → 2 ≤ r → cy_moved.has v r ≡ false
    new (suc (suc zero)) r other l = absurd (other refl)
    new zero zero other l = absurd (omega arith)
    new zero (suc zero) other l = absurd (omega arith)
    new zero (suc (suc zero)) other l = refl
    new zero (suc (suc (suc r))) other l = refl
    new (suc zero) zero other l = refl
    new (suc zero) (suc zero) other l = absurd (omega arith)
    new (suc zero) (suc (suc zero)) other l = refl
    new (suc zero) (suc (suc (suc r))) other l = refl
    new (suc (suc (suc v))) zero other l = refl
    new (suc (suc (suc v))) (suc zero) other l = refl
    new (suc (suc (suc v))) (suc (suc zero)) other l = refl
    new (suc (suc (suc v))) (suc (suc (suc r))) other l = refl

-- it is not ann who alone moved: cy has not the roles that they had
not_only_ann : OnlyUserMoved 0 worked_roles cy_moved → ⊥
unfolding worked_roles cy_moved
not_only_ann only = false≢true (only.same_roles 2 0 (λ e. omega (arith, e)) (omega arith))

only_id : OnlyPermissionMoved 1 worked_roles id_moved
unfolding worked_roles id_moved
only_id =
    record {
      no_fewer = omega arith;
      at_most_one_more = omega arith;
      same_permissions = permissions;
      same_roles = roles;
      new_has_it_alone = new;
    }
  where
    permissions : (r q : ℕ) → q ≢ 1 → r < 2 → id_moved.gives r q ≡ worked_roles.gives r q
    permissions r (suc zero) other l = absurd (other refl)
    permissions zero zero other l = refl
    permissions zero (suc (suc q)) other l = refl
    permissions (suc zero) zero other l = refl
    permissions (suc zero) (suc (suc q)) other l = refl
    permissions (suc (suc r)) zero other l = absurd (omega arith)
    permissions (suc (suc r)) (suc (suc q)) other l = absurd (omega arith)

    roles : (u r : ℕ) → r < 2 → id_moved.has u r ≡ worked_roles.has u r
    roles zero zero l = refl
    roles zero (suc zero) l = refl
    roles zero (suc (suc r)) l = absurd (omega arith)
    roles (suc zero) zero l = refl
    roles (suc zero) (suc zero) l = refl
    roles (suc zero) (suc (suc r)) l = absurd (omega arith)
    roles (suc (suc zero)) zero l = refl
    roles (suc (suc zero)) (suc zero) l = refl
    roles (suc (suc zero)) (suc (suc r)) l = absurd (omega arith)
    roles (suc (suc (suc u))) r l = refl

    new : (r q : ℕ) → q ≢ 1 → 2 ≤ r → id_moved.gives r q ≡ false
    new zero q other l = absurd (omega arith)
    new (suc zero) q other l = absurd (omega arith)
    new (suc (suc zero)) zero other l = refl
    new (suc (suc zero)) (suc zero) other l = absurd (other refl)
    new (suc (suc zero)) (suc (suc zero)) other l = refl
    new (suc (suc zero)) (suc (suc (suc q))) other l = refl
    new (suc (suc (suc r))) q other l = refl

-- ---- two books of one session

-- their bytes
worked_book : Bytes
worked_book =
    ascii "roles,bound,state\n2,2,witnessed\n\nrole,rec,id,map\nR1,1,1,0\nR2,0,1,1\n\n"
    ++ ascii "user,R1,R2\nann,1,0\nbo,0,1\ncy,1,1\n\nuser,permission\nann,rec\nbo,map\n"

changed_book : Bytes
changed_book =
    ascii "roles,bound,state\n3,3,witnessed\n\nrole,rec,id,map\nR1,1,1,0\nR2,0,1,1\nR3,1,0,1\n\n"
    ++ ascii "user,R1,R2,R3\nann,1,0,0\nbo,0,1,0\ncy,0,0,1\n\nuser,permission\nann,rec\nbo,id\ncy,map\n"

-- a writing on a session, in a buffer longer than the book
room : Bytes
room = replicate 200 7

writing : Session → WriteOutcome
writing session = record { answer = write_answer session room; lent = buffer_after session room }

-- the session after each call: the worked example loaded and reduced, its book written; then the changed sheet loaded,
-- a load that is refused, a reduction, and a second writing
read_first : Session
read_first = after_load fresh worked

reduced_first : Session
reduced_first = after_reduce read_first

read_second : Session
read_second = after_load reduced_first without_id

refused_third : Session
refused_third = after_load read_second []

reduced_second : Session
reduced_second = after_reduce refused_third

before_first : List Event
before_first =
    record { call = reduce; outcome = reduce_answer read_first }
    ∷ record { call = load worked; outcome = load_answer worked }
    ∷ []

before_second : List Event
before_second =
    record { call = reduce; outcome = reduce_answer refused_third }
    ∷ record { call = load []; outcome = load_answer [] }
    ∷ record { call = load without_id; outcome = load_answer without_id }
    ∷ record { call = write room; outcome = writing reduced_first }
    ∷ before_first

first_book : BroughtOut worked worked_book
unfolding worked worked_book room writing read_first reduced_first before_first after_load after_reduce refusal sheet_of
    start_of kernel_of session_book book decimal every_below lowest_below write_answer write_causes buffer_after
first_book =
    record {
      earlier = before_first;
      session = reduced_first;
      buffer = room;
      written = writing reduced_first;
      led = (
        reduced_first,
        (
          read_first,
          (fresh, refl, record { answers = refl; leaves = refl }),
          record { answers = refl; leaves = refl },
        ),
        record { answers = refl; fills = refl; leaves = refl },
      );
      last = refl;
      answered = refl;
      book_is = refl;
    }

second_book : BroughtOut without_id changed_book
unfolding worked without_id changed_book room writing read_first reduced_first read_second refused_third reduced_second
    before_first before_second first_book after_load after_reduce refusal sheet_of start_of kernel_of session_book book
    decimal every_below lowest_below write_answer write_causes buffer_after
second_book =
    record {
      earlier = before_second;
      session = reduced_second;
      buffer = room;
      written = writing reduced_second;
      led = (
        reduced_second,
        (
          refused_third,
          (
            read_second,
            (
              reduced_first,
              (first_book.led.0, first_book.led.1, first_book.led.2),
              record { answers = refl; leaves = refl },
            ),
            record { answers = refl; leaves = refl },
          ),
          record { answers = refl; leaves = refl },
        ),
        record { answers = refl; fills = refl; leaves = refl },
      );
      last = refl;
      answered = refl;
      book_is = refl;
    }

-- what is promised of them, and of the books of two sheets that differ in a column
first_printed : PrintsAsSmallest worked_book 2
unfolding worked_book decimal
first_printed = witnessed_at 2 worked_book refl

second_printed : PrintsAsSmallest changed_book 3
unfolding changed_book decimal
second_printed = witnessed_at 3 changed_book refl

of_one_session : NumbersOneApart worked worked_book without_id changed_book → AtMostOneApart 2 3
of_one_session fact = fact.counts (inl (2, line_of_cy)) 2 3 first_printed second_printed

by_column : NumbersOneApart worked (book_of worked 0) id_of_bo (book_of id_of_bo 0) → AtMostOneApart 2 3
by_column fact = fact.counts (inr (1, column_of_id)) 2 3 worked_printed one_more_by_column

bounds_by_column : NumbersOneApart worked (book_of worked 0) id_of_bo (book_of id_of_bo 0) → (2 ≤ 4) × (3 ≤ 3)
unfolding worked_printed one_more_by_column witnessed_at
bounds_by_column fact =
    fact.bounds (inr (1, column_of_id)) 2 2 3 3 witnessed witnessed worked_printed.prints
    one_more_by_column.prints
