-- What a writer leaves in the buffer that it is lent: its bytes at the front, then the buffer's own bytes past them.
-- A writer that is lent the rest from where another ended leaves, with that one, both texts one after the other: the
-- buffer's own bytes past both are what was dropped twice. Assumes nothing.
use Rattle.std.specs.Prelude.{ℕ, suc, ◌+◌, ◌-◌, ◌≤◌, ◌<◌, ◌≡◌, refl, [], ◌∷◌, ◌++◌, length, take, drop, set, get_or}
use Rattle.std.proofs.Common.{add-one, arith, sym, ap, ◌∙◌, append_assoc, append-nil, length-append, length-drop, drop_of_length-le, drop-drop, drop-cons, take_at, take_all, drop_at, take-suc}
use Rattle.std.proofs.lemmas.List.{set_at}
use Rattle.spec.specs.Text.{Bytes}

-- the buffer after is these bytes, then what it held past them; the answer is their number
pub record Written (bytes before after : Bytes) (count : ℕ) : Type 0 where
  pub buffer : after ≡ bytes ++ drop (length bytes) before
  pub counted : count ≡ length bytes

-- the same bytes under another name
pub fits_as : {bytes same : Bytes} {room : ℕ} → bytes ≡ same → length bytes ≤ room → length same ≤ room
fits_as e fits = rw e at fits

pub written_as : {bytes same before after : Bytes} {count : ℕ} → bytes ≡ same → Written bytes before after count
    → Written same before after count
written_as e w = rw e at w

-- nothing is written yet
pub nothing_written : (before : Bytes) → Written [] before before 0
nothing_written before = record { buffer = refl; counted = refl }

-- a buffer keeps its length
pub written_length : (bytes : Bytes) {before after : Bytes} {count : ℕ} → length bytes ≤ length before
    → Written bytes before after count
    → length after ≡ length before
written_length bytes {before} fits w =
    ap length w.buffer ∙ length-append bytes (drop (length bytes) before) ∙ rw (length-drop (length bytes) before)
    (omega arith)

-- ---- one writer after another

-- what a writer is lent that gets the rest of a buffer from n on, and the buffer when that rest is back
abbrev pub rest_from : ℕ → Bytes → Bytes
rest_from n mid = take (length mid - n) (drop n mid)

abbrev pub with_rest : ℕ → Bytes → Bytes → Bytes
with_rest n mid rest = take n mid ++ (rest ++ drop (length mid - n) (drop n mid))

-- where another writer ended there is the buffer's own rest
rest_is_own : (a : Bytes) {before mid : Bytes} {n : ℕ} → length a ≤ length before → Written a before mid n
    → rest_from n mid ≡ drop (length a) before
rest_is_own a {before} {mid} {n} fits w =
    take_all (length mid - n) (drop n mid) (rw (length-drop n mid) (omega arith))
    ∙ rw w.buffer (drop_at a (drop (length a) before) n (sym w.counted))

-- what is put back is all that follows
with_rest_is : (a : Bytes) {before mid : Bytes} {n : ℕ} (rest : Bytes) → Written a before mid n
    → with_rest n mid rest ≡ a ++ rest
with_rest_is a {before} {mid} {n} rest w =
    let past : drop (length mid - n) (drop n mid) ≡ [] = drop_of_length-le (drop n mid) {i = length mid - n}
    (rw (length-drop n mid) (omega arith)) in
    let front : take n mid ≡ a = rw w.buffer (take_at a (drop (length a) before) n (sym w.counted)) in
    rw (past, front, append-nil rest)

-- some bytes are written, and the buffer has room for more
pub record WrittenSoFar (done next before mid : Bytes) (at : ℕ) : Type 0 where
  pub written : Written done before mid at
  pub fits : length (done ++ next) ≤ length before

-- what a front needs is no more than what the whole needs
pub front_fits : (done next : Bytes) {room : ℕ} → length (done ++ next) ≤ room → length done ≤ room
front_fits done next fits = omega (arith, length-append done next)

module _ {done next before mid : Bytes} {at : ℕ} (r : WrittenSoFar done next before mid at) where
  done_fits : length done ≤ length before
  done_fits = front_fits done next r.fits

  -- the rest starts within the buffer
  pub place_within : at ≤ length before
  place_within = omega (arith, r.written.counted, done_fits)

  pub within_buffer : at ≤ length mid
  within_buffer = omega (arith, place_within, written_length done done_fits r.written)

  -- the rest has room for what follows
  pub room_behind : length next ≤ length (rest_from at mid)
  room_behind =
      rw (rest_is_own done done_fits r.written, length-drop (length done) before)
      (omega (arith, r.fits, length-append done next))

  -- writing one after the other is writing both texts joined
  pub then_written : {rest : Bytes} {m : ℕ} → Written next (rest_from at mid) rest m
      → Written (done ++ next) before (with_rest at mid rest) (at + m)
  then_written {rest} {m} v =
      let own : rest_from at mid ≡ drop (length done) before = rest_is_own done done_fits r.written in
      let e : rest ≡ next ++ drop (length next) (drop (length done) before) = rw own at v.buffer in
      let both : length (done ++ next) ≡ length done + length next = length-append done next in
      record {
        buffer = with_rest_is done rest r.written
            ∙ rw (e, drop-drop (length next) (length done) before, both)
            (sym (append_assoc done next (drop (length done + length next) before)));
        counted = omega (arith, r.written.counted, v.counted);
      }

  -- the end of both is within the buffer, which keeps its length
  pub end_within : {rest : Bytes} {m : ℕ} → Written next (rest_from at mid) rest m → at + m ≤ length before
  end_within v = omega (arith, (then_written v).counted, r.fits)

  pub then_same_length : {rest : Bytes} {m : ℕ} → Written next (rest_from at mid) rest m
      → length (with_rest at mid rest) ≡ length before
  then_same_length v = written_length (done ++ next) r.fits (then_written v)

-- ---- one byte more

pub byte_written : (bytes : Bytes) (b : ℕ) {before mid : Bytes} {count : ℕ} → count < length before
    → Written bytes before mid count
    → Written (bytes ++ b ∷ []) before (set mid count b) (count + 1)
byte_written bytes b {before} {mid} {count} fits w =
    let e = w.counted in
    let here : length bytes < length before = omega arith in
    let more : length (bytes ++ b ∷ []) ≡ suc (length bytes) = length-append bytes (b ∷ []) ∙ omega arith in
    record {
      buffer = rw (w.buffer, drop-cons before (length bytes) 0 here)
          (set_at bytes (get_or before (length bytes) 0) (drop (suc (length bytes)) before) b count (sym e)
          ∙ rw (more, append_assoc bytes (b ∷ []) (drop (suc (length bytes)) before)));
      counted = rw (more) (omega arith);
    }

module _ {done before mid : Bytes} {at b : ℕ} (r : WrittenSoFar done (b ∷ []) before mid at) where
  byte_fits : at < length before
  byte_fits = omega (arith, r.written.counted, r.fits, length-append done (b ∷ []))

  -- the byte stands within the buffer
  pub byte_within : at < length mid
  byte_within = omega (arith, byte_fits, written_length done (done_fits r) r.written)

  -- a byte behind what is written
  pub then_byte : Written (done ++ b ∷ []) before (set mid at b) (at + 1)
  then_byte = byte_written done b byte_fits r.written

  pub byte_same_length : length (set mid at b) ≡ length before
  byte_same_length = written_length (done ++ b ∷ []) r.fits then_byte

-- one byte more of bytes that are copied
pub copied_byte : (bytes : Bytes) (i : ℕ) {before mid : Bytes} → i < length bytes → length bytes ≤ length before
    → Written (take i bytes) before mid i → Written (take (i + 1) bytes) before (set mid i (get_or bytes i 0)) (i + 1)
copied_byte bytes i {before} {mid} h fits w =
    rw (add-one i, take-suc bytes i 0 h) (rw (add-one i) at (byte_written (take i bytes) (get_or bytes i 0)
    (omega arith) w))
