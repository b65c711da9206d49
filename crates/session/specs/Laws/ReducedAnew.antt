-- A session whose sheet was reduced: it keeps what was found of the sheet, and the position before the first step with
-- the first cover as its best placement. So it stands for that sheet where the machine starts, and is one with a sheet
-- that is reduced.
use Rattle.std.specs.Prelude.{ℕ, ◌+◌, ◌≤◌, ◌≡◌, refl, Bool, true, false, cond, List, eqb, leb}
use Rattle.std.proofs.Common.{sym, ap, ◌∙◌, leb-true}
use Rattle.std.proofs.Math.Bool.{So}
use Rattle.spec.specs.Limits.{search_limit}
use Rattle.spec.specs.Sheet.{Sheet, sheet_of}
use Rattle.spec.specs.Cover.{used}
use Rattle.spec.specs.Machine.{State, best_count}
use Rattle.spec.specs.Roles.{kernel_of, start_of}
use Rattle.spec.specs.Session.{reduced}
use Rattle.lists.specs.LatestFirst.{latest_first}
use Rattle.search.specs.View.{started, PositionStands}
use Rattle.search.specs.View as position
use Rattle.search.specs.Laws.Carried.{started_stands}
use Rattle.search.specs.declared.machine.Position.{Position}
use Rattle.minimality.specs.StateBound.{searching_start}
use Rattle.preparing.specs.Prepared.{PreparedFor}
use Rattle.preparing.specs.Laws.TableKernel.{sizes_found}
use Rattle.session.specs.CodeSession.{text_in, state_in, view, HoldsSheet, Holds}
use Rattle.preparing.specs.declared.prepared.Prepared.{Prepared}
use Rattle.session.specs.declared.Session.{Session as CodeSession}

-- ---- the first cover

module _ {sheet : Sheet} {rows : List ℕ} {users : ℕ} {p : Prepared} (found : PreparedFor sheet rows users p) where
  -- its class count is that of the machine's start
  first_counted : p.first.used ≡ best_count (start_of sheet)
  unfolding start_of
  first_counted = found.first.in_use

  -- and finishes the search where the machine's start is finished
  first_finishes : eqb (p.first.used + p.reduced.singles) p.witness.count ≡ (start_of sheet).finished
  unfolding start_of kernel_of
  first_finishes = rw (
    found.first.in_use,
    found.reduced.single_count sheet found.shown,
    found.witness.counted,
  )

  -- the position before the first step, with the first cover as its best placement
  started_at : (first : List ℕ)
      → latest_first first p.kernel.size ≡ latest_first p.first.classes p.kernel.size
      → position.view (started first p.first.used (sizes_found p)) p.kernel.size ≡ start_of sheet
  unfolding start_of
  started_at first e = rw (e, found.first.so_far, first_finishes)

-- ---- the session

-- the session with its sheet reduced: what was found of it, and a position
abbrev pub reduced_to : CodeSession → Prepared → Position → CodeSession
reduced_to s found at =
    record {
      loaded = s.loaded;
      reduced = true;
      length = s.length;
      text = s.text;
      layout = s.layout;
      rows = s.rows;
      position = at;
      prepared = found;
    }

-- this was found of the session's sheet, and the position is the one before the first step
pub record Anew (s : CodeSession) (p : Prepared) (at : Position) : Type 0 where
  pub accepts : So s.loaded
  pub sheet : HoldsSheet s
  pub found : PreparedFor (sheet_of (text_in s)) s.rows s.layout.users p
  pub first : List ℕ
  pub same : p.kernel.size ≤ search_limit → latest_first first p.kernel.size ≡ latest_first p.first.classes
      p.kernel.size
  pub starts : at ≡ started first p.first.used (sizes_found p)

module _ {s : CodeSession} {p : Prepared} {at : Position} (anew : Anew s p at) where
  -- its machine is at the start
  state_anew : state_in (reduced_to s p at) ≡ start_of (sheet_of (text_in s))
  state_anew = by_size (leb p.kernel.size search_limit) refl
    where
      by_size : (searched : Bool) → leb p.kernel.size search_limit ≡ searched
          → cond searched (position.view at p.kernel.size) (start_of (sheet_of (text_in s))) ≡ start_of
          (sheet_of (text_in s))
      by_size true e =
          ap (λ (here : Position). position.view here p.kernel.size) anew.starts
          ∙ started_at anew.found anew.first (anew.same (leb-true p.kernel.size search_limit e))
      by_size false e = refl

  pub view_anew : view (reduced_to s p at) ≡ reduced (text_in s) (start_of (sheet_of (text_in s)))
  view_anew = rw (anew.accepts, state_anew)

  stands_anew : p.kernel.size ≤ search_limit → PositionStands p.kernel.size at
  stands_anew l =
      rw anew.starts
      (started_stands anew.first p.first.used (sizes_found p)
      (anew.found.first.in_use ∙ ap used (sym anew.found.first.so_far ∙ sym (anew.same l))) l)

  pub holds_anew : Holds (reduced_to s p at)
  holds_anew =
      record {
        accepts = anew.accepts;
        sheet = record { whole = anew.sheet.whole; laid = anew.sheet.laid; cells = anew.sheet.cells };
        prepared = anew.found;
        stands = stands_anew;
        searching = rw state_anew (searching_start (sheet_of (text_in s)));
        counted = ap (λ (here : Position). here.cursor.count) anew.starts ∙ first_counted anew.found
            ∙ ap best_count (sym state_anew);
        finished =
            ap (λ (here : Position). here.cursor.finished) anew.starts ∙ first_finishes anew.found
            ∙ ap (λ (st : State). st.finished) (sym state_anew);
      }
