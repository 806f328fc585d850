-- What was read tells what the whole input prints, and where reading stops.
use Prim.Native.Nat.{ℕ, zero, suc, ◌+◌, ◌-◌, ◌≤◌, ◌<◌}
use mathlib.Core.Path.{◌≡◌, sym, ◌∙◌, refl, ap}
use mathlib.Core.Bool.{true, false}
use mathlib.Core.List.{List, [], ◌∷◌, ◌++◌, append_assoc}
use native.Mathlib.Omega.{arith}
use borrow.Author.Tests.{ltb-true, ltb-false}
use lib.Dec.{ltb}
use lib.ListN.{length, get_or, take, drop, set, length-set, take-append-drop}
use lib.Seq.{take-suc, length-take-le, get_or-set_same, get_or-set_other}
use Rattle.cube_spec.proofs.Naturals.{clash}
use Rattle.cube_spec.proofs.Sums.{by}
use Rattle.practice_spec.specs.Seeds.{is_digit, digit_limit, practised}
use Rattle.practice_spec.proofs.Reading.{eleven, no_further}
use Rattle.practice.specs.declared.types.Opening.{Opening}
use Rattle.practice.specs.Openings.{opening_after, space_after, Stops, Keeps, ReadOf}

module _ (input space : List ℕ) (o : Opening) (room : digit_limit < length space) (s : Stops space o) (r : ReadOf input space o) where
  abbrev read : List ℕ
  read = take o.used space

  -- what was read, and the rest
  parts : input ≡ read ++ drop o.used input
  parts = sym (take-append-drop o.used input) ∙ ap (λ x. x ++ drop o.used input) (sym r.begins)

  -- the space is full
  full : length space ≤ o.used → practised read ≡ practised input
  full h = sym (ap practised parts ∙ eleven read (drop o.used input) (let m = s.most in let n = length-take-le o.used space m in omega arith))

  -- a byte that is no digit comes last
  ends : (0 < o.used) → o.used ≤ length space → is_digit (get_or space (o.used - 1) 0) ≡ false → practised read ≡ practised input
  ends h l d =
      let q : o.used ≡ suc (o.used - 1) = omega arith in
      let e : read ≡ take (o.used - 1) space ++ get_or space (o.used - 1) 0 ∷ [] = ap (λ n. take n space) q ∙ take-suc space (o.used - 1) 0 (omega arith) in
      let w = drop o.used input in
      let b = get_or space (o.used - 1) 0 in
      let a = take (o.used - 1) space in
      sym (ap practised (parts ∙ ap (λ x. x ++ w) e ∙ append_assoc a (b ∷ []) w) ∙ no_further a b w d ∙ ap practised (sym e))

  -- WHAT WAS READ PRINTS AS THE WHOLE INPUT DOES
  pub told : practised read ≡ practised input
  told =
      by o.ended
      (λ t. ap practised (r.all t))
      (λ t.
      by (ltb o.used (length space))
      (λ u. let h = ltb-true o.used (length space) u in let l = s.last t h in ends l.0 (omega arith) l.1)
      (λ u. full (ltb-false o.used (length space) u)))

-- ---- where reading stops

-- so many bytes are read, all of them digits
pub record Read (space₀ space : List ℕ) (used : ℕ) : Type 0 where
  pub fits : used ≤ length space
  pub digits : (i : ℕ) → i < used → is_digit (get_or space i 0) ≡ true
  pub keeps : Keeps space₀ space used

module _ {space₀ space : List ℕ} {used : ℕ} (w : Read space₀ space used) where
  pub stops_ended : Stops space (record { used = used; ended = true })
  stops_ended = record { most = w.fits; before = λ i h. w.digits i (omega arith); last = λ e k. clash e }

  pub stops_full : (n : ℕ) → n ≡ used → length space ≤ used → Stops space (record { used = n; ended = false }) × Keeps space₀ space n
  stops_full n e k =
      let f = w.fits in
      (record { most = omega arith; before = λ i h. w.digits i (omega arith); last = λ u l. absurd (omega arith) }, record { same = w.keeps.same; rest = λ i h. w.keeps.rest i (omega arith) })

  -- one byte more
  module _ (b : ℕ) (h : used < length space) where
    there : get_or (set space used b) used 0 ≡ b
    there = get_or-set_same space used b 0 h

    others : (i : ℕ) → i < used → is_digit (get_or (set space used b) i 0) ≡ true
    others i l = ap is_digit (get_or-set_other space used i b 0 (λ z. omega arith)) ∙ w.digits i l

    pub keeps_more : Keeps space₀ (set space used b) (used + 1)
    keeps_more =
        record {
          same = length-set space used b ∙ w.keeps.same;
          rest = λ i l. get_or-set_other space used i b 0 (λ z. omega arith) ∙ w.keeps.rest i (omega arith);
        }

    more_fits : used + 1 ≤ length (set space used b)
    more_fits = let n = length-set space used b in omega arith

    pub stops_last : is_digit b ≡ false → Stops (set space used b) (record { used = used + 1; ended = false })
    stops_last d =
        let q : used + 1 - 1 ≡ used = omega arith in
        record {
          most = more_fits;
          before = λ i l. others i (omega arith);
          last = λ e k. (omega arith, ap (λ i. is_digit (get_or (set space used b) i 0)) q ∙ ap is_digit there ∙ d);
        }

    pub reads_on : is_digit b ≡ true → Read space₀ (set space used b) (used + 1)
    reads_on d =
        record {
          fits = more_fits;
          digits = λ i l. by (ltb i used)
              (λ t. others i (ltb-true i used t))
              (λ t. let e : i ≡ used = (let g = ltb-false i used t in omega arith) in ap (λ j. is_digit (get_or (set space used b) j 0)) e ∙ ap is_digit there ∙ d);
          keeps = keeps_more;
        }

-- ---- one read

module _ (space : List ℕ) (used got b : ℕ) where
  pub none_read : got ≡ 0 → (record { used = used; ended = true } ≡ opening_after used got) × (space ≡ space_after space used got b)
  unfolding opening_after space_after
  none_read e = rw e (refl, refl)

  pub some_read : (got ≡ 0 → ⊥) → (record { used = used + 1; ended = false } ≡ opening_after used got) × (set space used b ≡ space_after space used got b)
  unfolding opening_after space_after
  some_read h = let e : got ≡ suc (got - 1) = omega (arith, h) in rw e (refl, refl)

  told_ended : (opening_after used got).ended ≡ true → got ≡ 0
  told_ended t = by_end got t
    where
      by_end : (n : ℕ) → (opening_after used n).ended ≡ true → n ≡ 0
      by_end zero t = refl
      by_end (suc n) t = clash (sym (unfold opening_after in t))

  told_more : (opening_after used got).ended ≡ false → got ≡ 0 → ⊥
  unfolding opening_after
  told_more t e = clash (rw e at t)

-- a turn of the loop: by what it tells of the end, and the byte
module _ (space₀ space space' : List ℕ) (used got b : ℕ) (o : Opening) (w : Read space₀ space used) (h : used < length space)
    (e : o ≡ opening_after used got) (f : space' ≡ space_after space used got b) where
  ended_here : o.ended ≡ true → (o ≡ record { used = used; ended = true }) × (space' ≡ space)
  ended_here t =
      let n = none_read space used got b (told_ended space used got b (ap (λ (x : Opening). x.ended) (sym e) ∙ t)) in
      (e ∙ sym n.0, f ∙ sym n.1)

  more_here : o.ended ≡ false → (o ≡ record { used = used + 1; ended = false }) × (space' ≡ set space used b)
  more_here t =
      let n = some_read space used got b (told_more space used got b (ap (λ (x : Opening). x.ended) (sym e) ∙ t)) in
      (e ∙ sym n.0, f ∙ sym n.1)

  pub turn_ended : o.ended ≡ true → Stops space' o × Keeps space₀ space' o.used
  turn_ended t = let x = ended_here t in rw (x.0, x.1) (stops_ended w, w.keeps)

  pub turn_last : o.ended ≡ false → is_digit b ≡ false → Stops space' o × Keeps space₀ space' o.used
  turn_last t d = let x = more_here t in rw (x.0, x.1) (stops_last w b h d, keeps_more w b h)

  pub turn_on : o.ended ≡ false → is_digit b ≡ true → Read space₀ space' (used + 1)
  turn_on t d = let x = more_here t in rw x.1 (reads_on w b h d)
