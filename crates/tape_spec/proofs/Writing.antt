-- What is written is read: the tape written for lengths, p and readings of every kind holds these, one of points holds them, and a 52 of count n means what n 56s mean.
use Prim.Native.Nat.{ℕ, zero, suc, ◌+◌, ◌*◌, ◌/◌, ◌^◌, ◌≤◌, ◌<◌}
use mathlib.Core.Path.{◌≡◌, refl, sym, ap, ◌∙◌}
use mathlib.Core.Option.{Option, none, some}
use mathlib.Core.List.{List, [], ◌∷◌, ◌++◌, map, append_assoc}
use native.Mathlib.Omega.{arith}
use borrow.Author.Tests.{le-ltb}
use lib.Dec.{ltb}
use lib.ListN.{length, get_or, drop, replicate, length-append, length-map}
use lib.IntN.{ℤ}
use mir.Syntax.{w32}
use mir.Val.{SFits, of_z}
use mir.Facts.{to_z-of_z, Fits-of_z}
use Rattle.cube_spec.specs.Limits.{tape_limit, padded}
use Rattle.cube_spec.specs.Bytes.{little}
use Rattle.cube_spec.specs.Checks.{check, first, gives, answered}
use Rattle.tape_reading.specs.declared.types.Reading.{Reading}
use Rattle.tape_reading.specs.declared.types.Reading.TheVariants as Reading'
use Rattle.tape_reading.specs.Readings.{signed32, reading_of, centimetres_of, value_in}
use Rattle.tape_spec.specs.Tapes.{Command, axis, boards, points, end, First, found, operand, single, repeated, first_of, prepend, first_then, commands, Entry, Form, with_entry, with_length, with_boards, entries_of, form_of, form_in, form, points_of, Campaign, as_campaign, campaign}
use Rattle.tape_spec.specs.Reading.{too_long, entry_checks, scan_checks, scan_refusal, command_count, scanned_as, scanning, short_slice, reading_checks, reading_refusal, filled_or, reading}
use Rattle.tape_spec.specs.Decoding.{entries_from}
use Rattle.tape_spec.specs.Writing.{bytes, axis_command, boards_command, point_command, repeat_command, end_command, each, headed, written, Logged, centimetres, metres, kilometres, logged_command, logged_reading, logged, Every}
use Rattle.tape_spec.proofs.Commands.{commands_none, commands_next}
use Rattle.tape_spec.proofs.Refusing.{after_scan}

-- ---- what holds of each element

pub every_append : {A : Type 0} (P : A → Type 0) (a b : List A) → Every P a → Every P b → Every P (a ++ b)
every_append P [] b h k = k
every_append P (x ∷ a) b h k = (h.0, every_append P a b h.1 k)

pub every_at : {A : Type 0} (P : A → Type 0) (z : A) (l : List A) → Every P l → (d : ℕ) → d < length l → P (get_or l d z)
every_at P z [] h d k = absurd (omega arith)
every_at P z (x ∷ l) h zero k = h.0
every_at P z (x ∷ l) h (suc d) k = every_at P z l h.1 d (omega arith)

-- ---- operands: the bytes written are the operand read, and what follows them follows

two : (x : ℕ) → x < 2 ^ 16 → little (bytes 2 x) ≡ x
unfolding little bytes
two x h = omega arith

four : (x : ℕ) → x < 2 ^ 32 → little (bytes 4 x) ≡ x
unfolding little bytes
four x h = omega arith

reads_two : (x : ℕ) (r : List ℕ) (k : ℕ → List ℕ → First) → x < 2 ^ 16 → operand 2 (bytes 2 x ++ r) k ≡ k x r
unfolding operand bytes
reads_two x r k h = rw (le-ltb (suc (suc (length r))) 2 (omega arith)) (ap (λ n. k n r) (two x h))

reads_four : (x : ℕ) (r : List ℕ) (k : ℕ → List ℕ → First) → x < 2 ^ 32 → operand 4 (bytes 4 x ++ r) k ≡ k x r
unfolding operand bytes
reads_four x r k h = rw (le-ltb (suc (suc (suc (suc (length r))))) 4 (omega arith)) (ap (λ n. k n r) (four x h))

-- ---- commands

-- the commands of a tape that begins with a command's bytes
begun : (c : Command) (l r : List ℕ) → 0 < length (l ++ r) → first_of (l ++ r) ≡ found c r → commands (l ++ r) ≡ prepend c (commands r)
unfolding first_then
begun c l r h e = commands_next (l ++ r) h ∙ rw e

reads_axis : (d : ℕ) (r : List ℕ) → d < 2 ^ 16 → commands (axis_command d ++ r) ≡ prepend (axis d) (commands r)
unfolding axis_command first_of
reads_axis d r h = begun (axis d) (axis_command d) r (omega arith) (reads_two d r (λ n s. found (axis n) s) h)

reads_boards : (p : ℕ) (r : List ℕ) → commands (boards_command p ++ r) ≡ prepend (boards p) (commands r)
unfolding boards_command first_of operand little
reads_boards p r = begun (boards p) (boards_command p) r (omega arith) (rw (le-ltb (suc (length r)) 1 (omega arith)) (ap (λ n. found (boards n) r) (let z : p + 256 * 0 ≡ p = omega arith in z)))

-- whole centimetres
whole : (v : ℤ) → SFits w32 v → signed32 (of_z w32 v) ≡ v
unfolding signed32
whole v f = to_z-of_z f

reads_point : (v : ℤ) (r : List ℕ) → SFits w32 v → commands (point_command v ++ r) ≡ prepend (points 1 (Reading'.Centimetres v)) (commands r)
unfolding point_command first_of single reading_of
reads_point v r f =
    begun (points 1 (Reading'.Centimetres v)) (point_command v) r (omega arith)
    (reads_four (of_z w32 v) r (λ n s. found (points 1 (reading_of 0x56 n)) s) (Fits-of_z f).fits ∙ ap (λ w. found (points 1 (Reading'.Centimetres w)) r) (whole v f))

-- a reading that fits its command
abbrev pub LoggedFits : Logged → Type 0
LoggedFits (centimetres v) = SFits w32 v
LoggedFits (metres b) = b < 2 ^ 32
LoggedFits (kilometres b) = b < 2 ^ 32

-- a reading by its command, whatever its four bytes are
pub reads_logged : (x : Logged) (r : List ℕ) → LoggedFits x → commands (logged_command x ++ r) ≡ prepend (points 1 (logged_reading x)) (commands r)
unfolding logged_command logged_reading first_of single reading_of
reads_logged (centimetres v) r f = reads_point v r f
reads_logged (metres b) r f = begun (points 1 (logged_reading (metres b))) (logged_command (metres b)) r (omega arith) (reads_four b r (λ n s. found (points 1 (reading_of 0x4D n)) s) f)
reads_logged (kilometres b) r f = begun (points 1 (logged_reading (kilometres b))) (logged_command (kilometres b)) r (omega arith) (reads_four b r (λ n s. found (points 1 (reading_of 0x4B n)) s) f)

reads_repeat : (n : ℕ) (v : ℤ) (r : List ℕ) → 0 < n → n < 2 ^ 16 → SFits w32 v → commands (repeat_command n v ++ r) ≡ prepend (points n (Reading'.Centimetres v)) (commands r)
unfolding repeat_command first_of single reading_of
reads_repeat n v r z h f =
    begun (points n (Reading'.Centimetres v)) (repeat_command n v) r (omega arith)
    (ap (λ l. operand 2 l (λ n s. operand 4 s (λ b t. repeated n (reading_of 0x52 b) t))) (append_assoc (bytes 2 n) (bytes 4 (of_z w32 v)) r)
    ∙ reads_two n (bytes 4 (of_z w32 v) ++ r) (λ n s. operand 4 s (λ b t. repeated n (reading_of 0x52 b) t)) h
    ∙ reads_four (of_z w32 v) r (λ b t. repeated n (reading_of 0x52 b) t) (Fits-of_z f).fits
    ∙ ap (λ w. repeated n (Reading'.Centimetres w) r) (whole v f)
    ∙ counted n z)
  where
    counted : (n : ℕ) → 0 < n → repeated n (Reading'.Centimetres v) r ≡ found (points n (Reading'.Centimetres v)) r
    counted zero z = absurd (omega arith)
    counted (suc n) z = unfold repeated in refl

reads_end : commands end_command ≡ some (end ∷ [])
unfolding end_command first_of first_then single
reads_end = commands_next end_command (omega arith) ∙ rw commands_none

-- ---- lists of commands, one after the other

abbrev pub prepend_all : List Command → Option (List Command) → Option (List Command)
prepend_all [] o = o
prepend_all (c ∷ cs) o = prepend c (prepend_all cs o)

reads_each : {A : Type 0} (P : A → Type 0) (f : A → List ℕ) (g : A → Command) → ((x : A) (r : List ℕ) → P x → commands (f x ++ r) ≡ prepend (g x) (commands r))
    → (l : List A) (r : List ℕ) → Every P l → commands (each f l ++ r) ≡ prepend_all (map g l) (commands r)
unfolding each
reads_each P f g h [] r k = refl
reads_each P f g h (x ∷ l) r k = rw (append_assoc (f x) (each f l) r, h x (each f l ++ r) k.0) (ap (prepend (g x)) (reads_each P f g h l r k.1))

-- the 41s, the 42, and then whatever follows it
reads_headed : (ds : List ℕ) (p : ℕ) (l : List ℕ) → Every (λ d. d < 2 ^ 16) ds → commands (headed ds p l) ≡ prepend_all (map axis ds) (prepend (boards p) (commands l))
unfolding headed
reads_headed ds p l h = rw (reads_each (λ d. d < 2 ^ 16) axis_command axis (λ d r l. reads_axis d r l) ds (boards_command p ++ l) h, reads_boards p l)

-- a command for each reading
abbrev once : Logged → Command
once x = points 1 (logged_reading x)

reads_all : (xs : List Logged) (l : List ℕ) → Every LoggedFits xs → commands (each logged_command xs ++ l) ≡ prepend_all (map once xs) (commands l)
reads_all xs l k = reads_each LoggedFits logged_command once (λ x r f. reads_logged x r f) xs l k

-- the tape that is written has a 41 for each length, a 42, a command for each reading and a 45
reads_tape : (ds : List ℕ) (p : ℕ) (xs : List Logged) → Every (λ d. d < 2 ^ 16) ds → Every LoggedFits xs
    → commands (logged ds p xs) ≡ prepend_all (map axis ds) (prepend (boards p) (prepend_all (map once xs) (some (end ∷ []))))
unfolding logged
reads_tape ds p xs h k = rw (reads_headed ds p (each logged_command xs ++ end_command) h, reads_all xs end_command k, reads_end)

-- ---- so it holds them

prepend_some : (cs x : List Command) → prepend_all cs (some x) ≡ some (cs ++ x)
prepend_some [] x = refl
prepend_some (c ∷ cs) x = rw (prepend_some cs x)

-- each reading stands once
abbrev pub entries_for : List Logged → List Entry
entries_for [] = []
entries_for (x ∷ xs) = record { times = 1; reading = logged_reading x } ∷ entries_for xs

holds_entries : (xs : List Logged) → entries_of (map once xs ++ (end ∷ [])) ≡ some (entries_for xs)
unfolding entries_of
holds_entries [] = refl
holds_entries (x ∷ xs) = rw (holds_entries xs)

holds_lengths : (ds : List ℕ) (p : ℕ) (cs : List Command) (es : List Entry) → entries_of cs ≡ some es
    → form_of (map axis ds ++ (boards p ∷ cs)) ≡ some (record { lengths = ds; p = p; entries = es })
unfolding form_of
holds_lengths [] p cs es e = rw e
holds_lengths (d ∷ ds) p cs es e = rw (holds_lengths ds p cs es e)

module _ (ds : List ℕ) (p : ℕ) (xs : List Logged) (h : Every (λ d. d < 2 ^ 16) ds) (k : Every LoggedFits xs) where
  -- a tape of readings says these, each once, in their order
  pub says : form (logged ds p xs) ≡ some (record { lengths = ds; p = p; entries = entries_for xs })
  unfolding form
  says =
      let m = map once xs in
      rw (reads_tape ds p xs h k, prepend_some m (end ∷ []), prepend_some (map axis ds) (boards p ∷ (m ++ (end ∷ []))))
      (holds_lengths ds p (m ++ (end ∷ [])) (entries_for xs) (holds_entries xs))

  -- a command for each length and each reading, the 42 and the 45
  pub counts_logged : command_count (commands (logged ds p xs)) ≡ length ds + length xs + 2
  counts_logged =
      let m = map once xs in
      let a = length-append (map axis ds) (boards p ∷ (m ++ (end ∷ []))) in
      let b = length-append m (end ∷ []) in
      let c = length-map ds axis in
      let d = length-map xs once in
      rw (reads_tape ds p xs h k, prepend_some m (end ∷ []), prepend_some (map axis ds) (boards p ∷ (m ++ (end ∷ [])))) (omega arith)

  -- so the first of them that is refused decides, if the tape is within the limit
  pub judges_logged : length (logged ds p xs) ≤ tape_limit → scan_refusal (logged ds p xs) ≡ first (entry_checks (entries_for xs))
  unfolding scan_refusal scan_checks first too_long campaign
  judges_logged few = rw (le-ltb tape_limit (length (logged ds p xs)) few, says)

  -- and if none is, its points are theirs
  pub fills_logged : length (logged ds p xs) ≤ tape_limit → first (entry_checks (entries_for xs)) ≡ 0 → (s : List ℤ) → length (points_of (entries_for xs)) ≤ length s
      → (reading_refusal (logged ds p xs) (length s) ≡ 0) × (reading (logged ds p xs) s ≡ points_of (entries_for xs) ++ drop (length (points_of (entries_for xs))) s)
  unfolding reading reading_refusal reading_checks short_slice filled_or campaign
  fills_logged few e s l =
      let q : first (scan_checks (logged ds p xs)) ≡ 0 = unfold scan_refusal in judges_logged few ∙ e in
      let z : first (check 11 (ltb (length s) (length (points_of (entries_for xs)))) ∷ []) ≡ 0 = unfold first in rw (le-ltb (length s) (length (points_of (entries_for xs))) l) in
      rw (after_scan (logged ds p xs) _ q, says, z) (refl, refl)

-- ---- whole centimetres: a 56 for each point

abbrev whole_log : List ℤ → List Logged
whole_log vs = map centimetres vs

each_whole : (vs : List ℤ) → each point_command vs ≡ each logged_command (whole_log vs)
unfolding each logged_command
each_whole [] = refl
each_whole (v ∷ vs) = ap (λ l. point_command v ++ l) (each_whole vs)

as_logged : (ds : List ℕ) (p : ℕ) (vs : List ℤ) → written ds p vs ≡ logged ds p (whole_log vs)
unfolding written logged
as_logged ds p vs = rw (each_whole vs)

whole_fits : (vs : List ℤ) → Every (SFits w32) vs → Every LoggedFits (whole_log vs)
whole_fits [] k = tt
whole_fits (v ∷ vs) k = (k.0, whole_fits vs k.1)

points_back : (vs : List ℤ) → points_of (entries_for (whole_log vs)) ≡ vs
unfolding points_of logged_reading centimetres_of
points_back [] = refl
points_back (v ∷ vs) = ap (λ l. v ∷ l) (points_back vs)

-- whole centimetres are never refused
none_refused : (vs : List ℤ) → first (entry_checks (entries_for (whole_log vs))) ≡ 0
unfolding entry_checks first logged_reading centimetres_of
none_refused [] = refl
none_refused (v ∷ vs) = none_refused vs

module _ (ds : List ℕ) (p : ℕ) (vs : List ℤ) (h : Every (λ d. d < 2 ^ 16) ds) (k : Every (SFits w32) vs) where
  -- the tape that is written holds what was written
  pub holds : campaign (written ds p vs) ≡ some (record { lengths = ds; p = p; points = vs })
  unfolding campaign
  holds = rw (as_logged ds p vs, says ds p (whole_log vs) h (whole_fits vs k)) (ap (λ l. some (record { lengths = ds; p = p; points = l })) (points_back vs))

  -- so it is scanned and read as that, if it is within the limit
  module _ (few : length (written ds p vs) ≤ tape_limit) where
    pub passes : first (scan_checks (written ds p vs)) ≡ 0
    unfolding scan_refusal
    passes = rw (as_logged ds p vs) (judges_logged ds p (whole_log vs) h (whole_fits vs k) (rw (as_logged ds p vs) at few) ∙ none_refused vs)

    pub reads_written : (s : List ℤ) → length vs ≤ length s → (reading_refusal (written ds p vs) (length s) ≡ 0) × (reading (written ds p vs) s ≡ vs ++ drop (length vs) s)
    unfolding reading reading_refusal reading_checks first short_slice filled_or
    reads_written s l = rw (after_scan (written ds p vs) _ passes, holds, le-ltb (length s) (length vs) l) (refl, refl)

    pub scans_written : scanning (written ds p vs) ≡ gives (record { axes = length ds; lengths = padded ds; p = p; points = length vs; commands = length ds + length vs + 2 })
    unfolding scanning scan_refusal scanned_as answered
    scans_written =
        let c = counts_logged ds p (whole_log vs) h (whole_fits vs k) in
        let w = length-map vs centimetres in
        let n : command_count (commands (logged ds p (whole_log vs))) ≡ length ds + length vs + 2 = omega arith in
        rw (passes, holds, as_logged ds p vs, n)

-- ---- how long a tape of 56s is

pub each_length : {A : Type 0} (f : A → List ℕ) (k : ℕ) → ((x : A) → length (f x) ≡ k) → (l : List A) → length (each f l) ≡ k * length l
unfolding each
each_length f k h [] = omega arith
each_length f k h (x ∷ l) = let i = each_length f k h l in let e = h x in let a = length-append (f x) (each f l) in omega arith

pub axis_length_lem : (d : ℕ) → length (axis_command d) ≡ 3
unfolding axis_command bytes
axis_length_lem d = refl

pub point_length : (v : ℤ) → length (point_command v) ≡ 5
unfolding point_command bytes
point_length v = refl

-- three bytes for each axis, five for each point, and three more
pub written_length : (ds : List ℕ) (p : ℕ) (vs : List ℤ) → length (written ds p vs) ≡ 3 * length ds + 5 * length vs + 3
unfolding written headed boards_command end_command
written_length ds p vs =
    let a = each_length axis_command 3 axis_length_lem ds in
    let b = each_length point_command 5 point_length vs in
    let c = length-append (each axis_command ds) (0x42 ∷ p ∷ (each point_command vs ++ 0x45 ∷ [])) in
    let d = length-append (each point_command vs) (0x45 ∷ []) in
    omega arith

-- ---- a 52 of count n means what n 56s mean, among the points and whatever follows

-- the points of the commands that are left, if they keep the form
abbrev valued : Option (List Entry) → Option (List ℤ)
valued none = none
valued (some es) = some (points_of es)

abbrev pub points_left : Option (List Command) → Option (List ℤ)
points_left o = valued (entries_from o)

abbrev behind : List ℤ → Option (List ℤ) → Option (List ℤ)
behind vs none = none
behind vs (some l) = some (vs ++ l)

-- one command of n equal readings, and what is left
repeat_left : (n : ℕ) (x : Reading) (o : Option (List Command)) → points_left (prepend (points n x) o) ≡ behind (replicate n (value_in (centimetres_of x))) (points_left o)
unfolding entries_of
repeat_left n x none = refl
repeat_left n x (some cs) = go (entries_of cs)
  where
    go : (o : Option (List Entry)) → valued (with_entry n x o) ≡ behind (replicate n (value_in (centimetres_of x))) (valued o)
    go none = refl
    go (some es) = unfold points_of in refl

-- n of them, one by one
each_left : (n : ℕ) (x : Reading) (o : Option (List Command)) → points_left (prepend_all (replicate n (points 1 x)) o) ≡ behind (replicate n (value_in (centimetres_of x))) (points_left o)
each_left zero x o = go (points_left o)
  where
    go : (o : Option (List ℤ)) → o ≡ behind [] o
    go none = refl
    go (some l) = refl
each_left (suc n) x o =
    repeat_left 1 x (prepend_all (replicate n (points 1 x)) o) ∙ ap (behind (value_in (centimetres_of x) ∷ [])) (each_left n x o) ∙ go (points_left o)
  where
    go : (o : Option (List ℤ)) → behind (value_in (centimetres_of x) ∷ []) (behind (replicate n (value_in (centimetres_of x))) o) ≡ behind (replicate (suc n) (value_in (centimetres_of x))) o
    go none = refl
    go (some l) = refl

same_fits : (n : ℕ) (v : ℤ) → SFits w32 v → Every (SFits w32) (replicate n v)
same_fits zero v f = tt
same_fits (suc n) v f = (f, same_fits n v f)

same_mapped : (n : ℕ) (v : ℤ) → map (λ v. points 1 (Reading'.Centimetres v)) (replicate n v) ≡ replicate n (points 1 (Reading'.Centimetres v))
same_mapped zero v = refl
same_mapped (suc n) v = ap (λ l. points 1 (Reading'.Centimetres v) ∷ l) (same_mapped n v)

module _ (n : ℕ) (v : ℤ) (l : List ℕ) (z : 0 < n) (b : n < 2 ^ 16) (f : SFits w32 v) where
  pub repeats : points_left (commands (repeat_command n v ++ l)) ≡ points_left (commands (each point_command (replicate n v) ++ l))
  repeats =
      rw (reads_repeat n v l z b f, reads_each (SFits w32) point_command (λ v. points 1 (Reading'.Centimetres v)) (λ v r f. reads_point v r f) (replicate n v) l (same_fits n v f), same_mapped n v)
      (repeat_left n (Reading'.Centimetres v) (commands l) ∙ sym (each_left n (Reading'.Centimetres v) (commands l)))

-- a campaign of p and points alone, and one with a length more
abbrev pointed : ℕ → Option (List ℤ) → Option Campaign
pointed p none = none
pointed p (some l) = some (record { lengths = []; p = p; points = l })

abbrev longer : ℕ → Option Campaign → Option Campaign
longer d none = none
longer d (some k) = some (record { lengths = d ∷ k.lengths; p = k.p; points = k.points })

-- the campaign of a tape goes by the points that follow its 42
same_boards : (p : ℕ) (a c : Option (List Command)) → points_left a ≡ points_left c → as_campaign (form_in (prepend (boards p) a)) ≡ as_campaign (form_in (prepend (boards p) c))
unfolding form_of
same_boards p a c e = entered a ∙ ap (pointed p) e ∙ sym (entered c)
  where
    by_entries : (o : Option (List Entry)) → as_campaign (with_boards p o) ≡ pointed p (valued o)
    by_entries none = refl
    by_entries (some es) = refl

    entered : (o : Option (List Command)) → as_campaign (form_in (prepend (boards p) o)) ≡ pointed p (points_left o)
    entered none = refl
    entered (some cs) = by_entries (entries_of cs)

same_axis : (d : ℕ) (a c : Option (List Command)) → as_campaign (form_in a) ≡ as_campaign (form_in c) → as_campaign (form_in (prepend (axis d) a)) ≡ as_campaign (form_in (prepend (axis d) c))
unfolding form_of
same_axis d a c e = entered a ∙ ap (longer d) e ∙ sym (entered c)
  where
    by_form : (o : Option Form) → as_campaign (with_length d o) ≡ longer d (as_campaign o)
    by_form none = refl
    by_form (some f) = refl

    entered : (o : Option (List Command)) → as_campaign (form_in (prepend (axis d) o)) ≡ longer d (as_campaign (form_in o))
    entered none = refl
    entered (some cs) = by_form (form_of cs)

same_axes : (ds : List ℕ) (a c : Option (List Command)) → as_campaign (form_in a) ≡ as_campaign (form_in c)
    → as_campaign (form_in (prepend_all (map axis ds) a)) ≡ as_campaign (form_in (prepend_all (map axis ds) c))
same_axes [] a c e = e
same_axes (d ∷ ds) a c e = same_axis d (prepend_all (map axis ds) a) (prepend_all (map axis ds) c) (same_axes ds a c e)

same_points : (xs : List Logged) (a c : Option (List Command)) → points_left a ≡ points_left c → points_left (prepend_all (map once xs) a) ≡ points_left (prepend_all (map once xs) c)
same_points [] a c e = e
same_points (x ∷ xs) a c e =
    repeat_left 1 (logged_reading x) (prepend_all (map once xs) a)
    ∙ ap (behind (value_in (centimetres_of (logged_reading x)) ∷ [])) (same_points xs a c e)
    ∙ sym (repeat_left 1 (logged_reading x) (prepend_all (map once xs) c))

-- on a whole tape, after readings of every kind, whatever follows
pub repeats_on_tape : (ds : List ℕ) (p : ℕ) (xs : List Logged) (n : ℕ) (v : ℤ) (l : List ℕ) → Every (λ d. d < 2 ^ 16) ds → Every LoggedFits xs → 0 < n → n < 2 ^ 16 → SFits w32 v
    → campaign (headed ds p (each logged_command xs ++ (repeat_command n v ++ l))) ≡ campaign (headed ds p (each logged_command xs ++ (each point_command (replicate n v) ++ l)))
unfolding campaign form
repeats_on_tape ds p xs n v l h k z b f =
    let x = commands (repeat_command n v ++ l) in
    let y = commands (each point_command (replicate n v) ++ l) in
    let a = prepend_all (map once xs) x in
    let c = prepend_all (map once xs) y in
    rw (
      reads_headed ds p (each logged_command xs ++ (repeat_command n v ++ l)) h,
      reads_headed ds p (each logged_command xs ++ (each point_command (replicate n v) ++ l)) h,
      reads_all xs (repeat_command n v ++ l) k,
      reads_all xs (each point_command (replicate n v) ++ l) k,
    ) (same_axes ds (prepend (boards p) a) (prepend (boards p) c) (same_boards p a c (same_points xs x y (repeats n v l z b f))))

-- ---- what is written is bytes

abbrev pub Byte : ℕ → Type 0
Byte b = b < 256

every_byte : (n x : ℕ) → Every Byte (bytes n x)
unfolding bytes
every_byte zero x = tt
every_byte (suc n) x = (omega arith, every_byte n (x / 256))

every_each : {A : Type 0} (f : A → List ℕ) → ((a : A) → Every Byte (f a)) → (l : List A) → Every Byte (each f l)
unfolding each
every_each f h [] = tt
every_each f h (a ∷ l) = every_append Byte (f a) (each f l) (h a) (every_each f h l)

logged_bytes : (x : Logged) → Every Byte (logged_command x)
unfolding logged_command point_command
logged_bytes (centimetres v) = (omega arith, every_byte 4 (of_z w32 v))
logged_bytes (metres b) = (omega arith, every_byte 4 b)
logged_bytes (kilometres b) = (omega arith, every_byte 4 b)

pub are_bytes : (ds : List ℕ) (p : ℕ) (xs : List Logged) → p < 256 → Every Byte (logged ds p xs)
unfolding logged headed axis_command boards_command end_command
are_bytes ds p xs h =
    every_append Byte (each axis_command ds) _ (every_each axis_command (λ d. (omega arith, every_byte 2 d)) ds)
    (omega arith, (h, every_append Byte (each logged_command xs) _ (every_each logged_command logged_bytes xs) (omega arith, tt)))
