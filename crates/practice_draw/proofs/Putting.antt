-- Commands put one after the other in a lent buffer, up to the whole tape of a seed.
use Rattle.std.proofs.Common.{◌≡◌, ℕ, suc, ◌+◌, ◌*◌, ◌/◌, ◌%◌, ◌<◌, ◌≤◌, ltb, List, [], ◌∷◌, ◌++◌, length, get_or, take, set, ℤ, sym, refl, ap, ◌∙◌, append_assoc, append-nil, arith, length-append, length-take-le, take-suc, w32, of_z, ltb-false, ltb-true}
use lib.Seq.{sets}
use Rattle.cube_spec.specs.Choices.{points}
use Rattle.cube_spec.proofs.Slots.{padded_length, padded_take}
use Rattle.cube_spec.proofs.Stores as Stores
use Rattle.cube_spec.proofs.Sums.{by}
use Rattle.tape_spec.specs.Writing.{bytes, axis_command, boards_command, point_command, end_command, each, headed, written}
use Rattle.tape_spec.proofs.Writing.{each_length, axis_length_lem, point_length, written_length}
use Rattle.practice_spec.specs.Draws.{round, after, drawn, axes_of, lengths_of, power_of, point_by, points_of, practice, tape_of}
use Rattle.practice_spec.specs.inner.Judged.{longest_tape}
use Rattle.practice_spec.proofs.Drawn.{drawn_length, drawn_next}
use Rattle.practice_spec.proofs.Accepted as Accepted
use Rattle.practice_draw.specs.declared.types.Shape.{Shape}
use Rattle.practice_draw.specs.inner.Shapes.{shape_of}

-- ---- numbers

-- the four bytes of a number
pub word_bytes : (x : ℕ) → x % 256 ∷ (x / 256) % 256 ∷ (x / 65536) % 256 ∷ (x / 16777216) % 256 ∷ [] ≡ bytes 4 x
unfolding bytes
word_bytes x =
    let e : x / 65536 ≡ x / 256 / 256 = omega arith in
    let f : x / 16777216 ≡ x / 256 / 256 / 256 = omega arith in
    rw (e, f) refl

-- a point modulo 2^32
pub point_bits : (draw : ℕ) → (draw % 2001 + 4294966296) % 4294967296 ≡ of_z w32 (point_by draw)
unfolding point_by
point_bits draw = by (ltb (draw % 2001) 1000)
    (λ t. rw t (let h = ltb-true (draw % 2001) 1000 t in omega arith))
    (λ t. rw t (let h = ltb-false (draw % 2001) 1000 t in omega arith))

-- ---- commands of one width, one after the other

each_last : {A : Type 0} (f : A → List ℕ) (l : List A) (x : A) → each f (l ++ x ∷ []) ≡ each f l ++ f x
unfolding each
each_last f [] x = append-nil (f x)
each_last f (a ∷ l) x = ap (λ r. f a ++ r) (each_last f l x) ∙ sym (append_assoc (f a) (each f l) (f x))

put_next : {A : Type 0} (f : A → List ℕ) (k : ℕ) → ((x : A) → length (f x) ≡ k) → (l : List A) (x : A) (out : List ℕ) (from at : ℕ)
    → at ≡ from + k * length l → sets (sets out from (each f l)) at (f x) ≡ sets out from (each f (l ++ x ∷ []))
put_next f k h l x out from at e =
    let n = each_length f k h l in
    let q : at ≡ from + length (each f l) = omega arith in
    rw q (sym (ap (sets out from) (each_last f l x) ∙ Stores.joined out from (each f l) (f x)))

pub none_put : {A : Type 0} (f : A → List ℕ) (out : List ℕ) (from : ℕ) → out ≡ sets out from (each f [])
unfolding each
none_put f out from = refl

pub axis_put : (out out' l : List ℕ) (d at : ℕ) → d < length l → at ≡ 3 * d → out' ≡ sets out 0 (each axis_command (take d l))
    → sets out' at (axis_command (get_or l d 0)) ≡ sets out 0 (each axis_command (take (d + 1) l))
axis_put out out' l d at h e eo =
    let n = length-take-le d l (omega arith) in
    let q : d + 1 ≡ suc d = omega arith in
    rw (eo, q, take-suc l d 0 h) (put_next axis_command 3 axis_length_lem (take d l) (get_or l d 0) out 0 at (omega arith))

pub after_none : (s : ℕ) → s ≡ after 0 s
unfolding after
after_none s = refl

pub points_none_put : (out : List ℕ) (from s : ℕ) → out ≡ sets out from (each point_command (drawn point_by 0 s))
unfolding each drawn
points_none_put out from s = refl

pub point_put : (out out' : List ℕ) (from i at s draw : ℕ) → at ≡ from + 5 * i → draw ≡ round (after i s) → out' ≡ sets out from (each point_command (drawn point_by i s))
    → sets out' at (point_command (point_by draw)) ≡ sets out from (each point_command (drawn point_by (i + 1) s))
point_put out out' from i at s draw e d eo =
    let n = drawn_length point_by i s in
    rw (eo, d, drawn_next point_by i s)
    (put_next point_command 5 point_length (drawn point_by i s) (point_by (round (after i s))) out from at (omega arith))

-- ---- the whole tape

-- the stores of the 42 after the 41s
pub head_put : (out out₁ ds : List ℕ) (p at : ℕ) → at ≡ 3 * length ds → out₁ ≡ sets out 0 (each axis_command ds)
    → sets out₁ at (0x42 ∷ p ∷ []) ≡ sets out 0 (each axis_command ds ++ boards_command p)
unfolding boards_command
head_put out out₁ ds p at e eo =
    let n = each_length axis_command 3 axis_length_lem ds in
    let a : at ≡ 0 + length (each axis_command ds) = omega arith in
    rw (eo, a) (sym (Stores.joined out 0 (each axis_command ds) (0x42 ∷ p ∷ [])))

head_length : (ds : List ℕ) (p : ℕ) → length (each axis_command ds ++ boards_command p) ≡ 3 * length ds + 2
unfolding boards_command
head_length ds p = let n = each_length axis_command 3 axis_length_lem ds in let a = length-append (each axis_command ds) (0x42 ∷ p ∷ []) in omega arith

written_parts : (ds : List ℕ) (p : ℕ) (vs : List ℤ) → written ds p vs ≡ (each axis_command ds ++ boards_command p) ++ (each point_command vs ++ end_command)
unfolding written headed
written_parts ds p vs = sym (append_assoc (each axis_command ds) (boards_command p) (each point_command vs ++ end_command))

-- and that of the 45 after the 56s
pub whole_put : (out out₁ out₂ ds : List ℕ) (p : ℕ) (vs : List ℤ) (from end : ℕ) → from ≡ 3 * length ds + 2 → end ≡ from + 5 * length vs
    → out₁ ≡ sets out 0 (each axis_command ds ++ boards_command p) → out₂ ≡ sets out₁ from (each point_command vs) → set out₂ end 0x45 ≡ sets out 0 (written ds p vs)
unfolding end_command
whole_put out out₁ out₂ ds p vs from end e f eo ep =
    let head = each axis_command ds ++ boards_command p in
    let body = each point_command vs in
    let n = head_length ds p in
    let m = each_length point_command 5 point_length vs in
    let a : from ≡ 0 + length head = omega arith in
    let b : end ≡ 0 + length head + length body = omega arith in
    rw (ep, eo, b, a) (sym (ap (sets out 0) (written_parts ds p vs) ∙ Stores.joined out 0 head (body ++ 0x45 ∷ []) ∙ Stores.joined (sets out 0 head) (0 + length head) body (0x45 ∷ [])))

-- ---- a shape that is that of a seed

module _ (seed : ℕ) (shape : Shape) (e : shape ≡ shape_of seed) where
  axes_is : shape.axes ≡ axes_of seed
  unfolding shape_of
  axes_is = ap (λ (x : Shape). x.axes) e

  pub shape_slots : shape.axes ≤ length shape.lengths
  unfolding shape_of
  shape_slots =
      let a = axes_is in
      let b = Accepted.axes_few seed in
      let n = ap (λ (x : Shape). length x.lengths) e ∙ padded_length (lengths_of seed) in
      omega arith

  pub shape_short : 3 * shape.axes + 5 * shape.points + 3 ≤ longest_tape
  unfolding shape_of
  shape_short =
      let a = axes_is in
      let b = Accepted.axes_few seed in
      let c : shape.points ≡ points (lengths_of seed) = ap (λ (x : Shape). x.points) e in
      let d = Accepted.points_few seed in
      omega arith

  lengths_is : take shape.axes shape.lengths ≡ lengths_of seed
  unfolding shape_of
  lengths_is =
      let b = Accepted.axes_few seed in
      ap (λ (x : Shape). take x.axes x.lengths) e ∙ padded_take (lengths_of seed) (axes_of seed) (Accepted.axes_are seed) (omega arith)

  points_is : drawn point_by shape.points shape.state ≡ points_of seed
  unfolding shape_of points_of
  points_is = ap (λ (x : Shape). drawn point_by x.points x.state) e

  p_is : shape.p ≡ power_of seed
  unfolding shape_of
  p_is = ap (λ (x : Shape). x.p) e

  pub tape_is : written (take shape.axes shape.lengths) shape.p (drawn point_by shape.points shape.state) ≡ tape_of (practice seed)
  unfolding tape_of practice
  tape_is = rw (lengths_is, points_is, p_is) refl

  pub tape_length : 3 * shape.axes + 5 * shape.points + 3 ≡ length (tape_of (practice seed))
  tape_length =
      let n = written_length (take shape.axes shape.lengths) shape.p (drawn point_by shape.points shape.state) in
      let a = ap length lengths_is ∙ Accepted.axes_are seed ∙ sym axes_is in
      let b = drawn_length point_by shape.points shape.state in
      let c = ap length tape_is in
      omega arith
