-- Reading block 1: two counts, each up to its comma, and a state up to the line feed. A count and a state hold
-- neither, so each stands in a text in one way at most, and what follows them is known.
use Rattle.std.specs.Prelude.{ℕ, ◌+◌, ◌≡◌, refl, [], ◌∷◌, ◌++◌, eqb, Option, Some, None}
use Rattle.std.proofs.Common.{add-one, sym, ◌∙◌, append_assoc}
use Rattle.std.proofs.Math.Bool.{So}
use Rattle.spec.specs.Text.{ascii, Bytes, comma, line_feed}
use Rattle.spec.specs.Roles.{Standing}
use Rattle.spec.specs.Decimal.{is_count}
use Rattle.spec.specs.Book.{standing_word}
use Rattle.steps.specs.Laws.Aligned.{Aligned, aligned_same, aligned_then, ended_aligned}
use Rattle.places.specs.Places.{part}
use Rattle.standing.specs.StandingCases.{standing_case}
use Rattle.right.specs.WordLaws.{count_field, standing_word_field}
use Rattle.text.specs.Line.{line_end}
use Rattle.standing.specs.declared.standing.Standing.{Standing as StandingValue}
use Rattle.book_lines.specs.declared.counts.Counts.{Counts}
use Rattle.read_fields.specs.declared.counts_block.CountsRead.{CountsRead}
use Rattle.steps.specs.Stands.{Stands}
use Rattle.steps.specs.Steps.{Misses}
use Rattle.steps.specs.Laws.Stands.{stands_then}
use Rattle.steps.specs.Laws.Step.{misses_first, misses_second, misses_after}
use Rattle.steps.specs.Ended.{Ended, Unended, ended_once, ended_stands}
use Rattle.form.specs.Pieces.{counts_part}
use Rattle.digits.specs.Capped.{count_read, CountSaid, count_said, count_refused}

-- ---- a count

-- a count and the comma behind it
abbrev pub count_text : Bytes → Bytes
count_text digits = digits ++ comma ∷ []

-- a count that was read
pub record CountAt (text : Bytes) (at n next : ℕ) : Type 0 where
  pub digits : Bytes
  pub said : CountSaid digits n
  pub reads : Stands text at (count_text digits) next

-- a step over a count
abbrev pub CountReads : Bytes → ℕ → Option (ℕ × ℕ) → Type 0
CountReads text at (Some (n, next)) = CountAt text at n next
CountReads text at None = (digits : Bytes) → So (is_count digits) → Misses text at (count_text digits)

pub count_at : {text : Bytes} {at to n : ℕ} → Ended text at comma to → Some n ≡ count_read (part at to text)
    → CountAt text at n (to + 1)
count_at {text} {at} {to} {n} p e =
    record {
      digits = part at to text;
      said = count_said (part at to text) n e;
      reads = rw (add-one to)
          (ended_stands p);
    }

pub no_comma_behind : {text : Bytes} {at : ℕ} → Unended text at comma → (digits : Bytes) → So (is_count digits)
    → Misses text at (count_text digits)
no_comma_behind u digits e =
    record { misses = λ rest there. u.none digits rest (there ∙ append_assoc digits (comma ∷ []) rest) }

pub no_count : {text : Bytes} {at to : ℕ} → Ended text at comma to → None ≡ count_read (part at to text)
    → (digits : Bytes) → So (is_count digits) → Misses text at (count_text digits)
no_count {text} {at} {to} p e digits said =
    record {
      misses = λ rest there.
          count_refused (part at to text) e
          (rw (ended_once p digits rest (count_field digits said).no_comma (there ∙ append_assoc digits (comma ∷ [])
          rest)).0 at said);
    }

pub counts_aligned : (a b : Bytes) → So (is_count a) → So (is_count b) → Aligned (count_text a) (count_text b)
counts_aligned a b p q =
    ended_aligned (eqb comma) comma refl a b (count_field a p).no_comma (count_field b q).no_comma

-- ---- a state

-- a state and the line feed behind it
abbrev pub standing_text : Standing → Bytes
standing_text s = standing_word s ++ line_feed ∷ []

-- a step over a state
abbrev pub StandingReads : Bytes → ℕ → Option (StandingValue × ℕ) → Type 0
StandingReads text at (Some (s, next)) = Stands text at (standing_text (standing_case s)) next
StandingReads text at None = (s : Standing) → Misses text at (standing_text s)

pub no_line_feed_behind : {text : Bytes} {at : ℕ} → Unended text at line_feed → (s : Standing)
    → Misses text at (standing_text s)
no_line_feed_behind u s =
    record {
      misses = λ rest there.
          u.none (standing_word s) rest (there ∙ append_assoc (standing_word s) (line_feed ∷ []) rest);
    }

-- a part that is the word of no state
pub other_word : {text : Bytes} {at to : ℕ} → Ended text at line_feed to → (s : Standing)
    → (part at to text ≡ standing_word s → ⊥)
    → Misses text at (standing_text s)
other_word p s other =
    record {
      misses = λ rest there.
          other
          (sym (ended_once p (standing_word s) rest (standing_word_field s).no_line_feed
          (there ∙ append_assoc (standing_word s) (line_feed ∷ []) rest)).0);
    }

standings_aligned : (s t : Standing) → Aligned (standing_text s) (standing_text t)
standings_aligned s t =
    ended_aligned (eqb line_feed) line_feed refl (standing_word s) (standing_word t)
    (standing_word_field s).no_line_feed
    (standing_word_field t).no_line_feed

-- ---- block 1

-- what block 1 says was read
pub record CountsAt (text : Bytes) (at : ℕ) (said : Counts) (next : ℕ) : Type 0 where
  pub role_digits : Bytes
  pub bound_digits : Bytes
  pub roles : CountSaid role_digits said.roles
  pub bound : CountSaid bound_digits said.bound
  pub reads : Stands text at (counts_part role_digits bound_digits (standing_case said.standing)) next

-- no block 1 stands at a place
abbrev pub NoCounts : Bytes → ℕ → Type 0
NoCounts text at = (role_digits bound_digits : Bytes) (s : Standing) → So (is_count role_digits)
    → So (is_count bound_digits)
    → Misses text at (counts_part role_digits bound_digits s)

-- a step over block 1 and the empty line behind it
abbrev pub CountsReads : Bytes → ℕ → Option CountsRead → Type 0
CountsReads text at (Some r) = CountsAt text at r.counts r.next
CountsReads text at None = NoCounts text at

-- the bytes behind the line of names, behind the count of roles, behind the bound
abbrev pub after_heading : Bytes → Bytes → Standing → Bytes
after_heading role_digits bound_digits s =
    count_text role_digits ++ (count_text bound_digits ++ (standing_text s ++ line_end))

abbrev after_roles : Bytes → Standing → Bytes
after_roles bound_digits s = count_text bound_digits ++ (standing_text s ++ line_end)

abbrev after_bound : Standing → Bytes
after_bound s = standing_text s ++ line_end

module _ {text : Bytes} {at first : ℕ} (heading : Stands text at (ascii "roles,bound,state\n") first) where
  behind_heading : ((role_digits bound_digits : Bytes) (s : Standing) → So (is_count role_digits)
      → So (is_count bound_digits)
      → Misses text first (after_heading role_digits bound_digits s)) → NoCounts text at
  behind_heading m role_digits bound_digits s p q = misses_second (after_heading role_digits bound_digits s) heading
      (m role_digits bound_digits s p q)

  pub no_roles : ((digits : Bytes) → So (is_count digits) → Misses text first (count_text digits)) → NoCounts text at
  no_roles m = behind_heading (λ role_digits bound_digits s p q. misses_first (after_roles bound_digits s)
      (m role_digits p))

  module _ {n second : ℕ} (roles : CountAt text first n second) where
    behind_roles : ((bound_digits : Bytes) (s : Standing) → So (is_count bound_digits)
        → Misses text second (after_roles bound_digits s))
        → NoCounts text at
    behind_roles m =
        behind_heading (λ role_digits bound_digits s p q.
        misses_after (after_roles bound_digits s) roles.reads (counts_aligned roles.digits role_digits
        roles.said.count p)
        (m bound_digits s q))

    pub no_bound : ((digits : Bytes) → So (is_count digits) → Misses text second (count_text digits)) → NoCounts text at
    no_bound m = behind_roles (λ bound_digits s q. misses_first (after_bound s) (m bound_digits q))

    module _ {b third : ℕ} (bound : CountAt text second b third) where
      behind_bound : ((s : Standing) → Misses text third (after_bound s)) → NoCounts text at
      behind_bound m =
          behind_roles (λ bound_digits s q.
          misses_after (after_bound s) bound.reads (counts_aligned bound.digits bound_digits
          bound.said.count q) (m s))

      pub no_state : ((s : Standing) → Misses text third (standing_text s)) → NoCounts text at
      no_state m = behind_bound (λ s. misses_first line_end (m s))

      module _ (s : Standing) {end : ℕ} (standing : Stands text third (standing_text s) end) where
        pub no_empty_line : Misses text end line_end → NoCounts text at
        no_empty_line m = behind_bound (λ t. misses_after line_end standing (standings_aligned s t) m)

        pub counts_reads : {next : ℕ} → Stands text end line_end next
            → Stands text at (counts_part roles.digits bound.digits s) next
        counts_reads r = stands_then heading
            (stands_then roles.reads (stands_then bound.reads (stands_then standing r)))

-- whatever block 1 says, the same follows
pub counts_parts_aligned : (a b : Bytes) (s : Standing) (c d : Bytes) (t : Standing) → So (is_count a)
    → So (is_count b) → So (is_count c)
    → So (is_count d) → Aligned (counts_part a b s) (counts_part c d t)
counts_parts_aligned a b s c d t p q r v =
    aligned_then (aligned_same (ascii "roles,bound,state\n"))
    (aligned_then (counts_aligned a c p r)
    (aligned_then (counts_aligned b d q v) (aligned_then (standings_aligned s t) (aligned_same line_end))))
