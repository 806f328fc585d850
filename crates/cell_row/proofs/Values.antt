-- What a generic loop reads.
use Rattle.std.proofs.Common.{◌≡◌, ℕ, ◌<◌, List, length, get_or, map, ℤ, pos, sym, ap, ◌∙◌}
use Rattle.std.proofs.lemmas.List.{get_or-map}

-- the number of an element, as the definitions read it
pub read : {A : Type 0} (f : A → ℤ) (l : List A) (i : ℕ) (r : A) (x : ℤ) → r ≡ get_or l i r → x ≡ f r → i < length l → x ≡ get_or (map f l) i (pos 0)
read f l i r x p q h = q ∙ ap f p ∙ sym (get_or-map f l i r (pos 0) h)
