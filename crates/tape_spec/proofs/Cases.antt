-- Small tapes, scanned and read: the form, its operands, every way to depart from it, and readings that are refused.
use Prim.Native.Nat.{ℕ}
use mathlib.Core.Path.{◌≡◌, refl}
use mathlib.Core.List.{List, [], ◌∷◌, ◌++◌}
use lib.ListN.{replicate}
use lib.IntN.{pos, negsuc}
use lib.Ieee.{binary32, of_bits}
use Rattle.cube_spec.specs.Checks.{Reply, gives, answered}
use Rattle.tape_reading.specs.declared.types.Reading.TheVariants as Reading'
use Rattle.tape_spec.specs.Computing.{computing}
use Rattle.tape_spec.specs.Tapes.{axis, boards, points, end}
use Rattle.tape_spec.specs.Decoding.{placed, nothing, decoding}
use Rattle.tape_spec.specs.Writing.{written, centimetres, metres, kilometres, logged}
use Rattle.tape_spec.specs.Reading.{scan_refusal, scanning, reading_refusal, reading}
use Rattle.tape_spec.specs.declared.types.Scan.{Scan}
use Rattle.tape_spec.proofs.Scanning.{taken}
use Rattle.tape_spec.proofs.Listed as Listed
use Rattle.tape_spec.proofs.Listed.{Scanned}

-- lengths 258 and 3, p 9; −2 cm, 5 cm three times, 0.125 m, −0.375 km, −2^31 cm
whole : List ℕ
whole =
    0x41 ∷ 2 ∷ 1 ∷ 0x41 ∷ 3 ∷ 0 ∷ 0x42 ∷ 9 ∷ 0x56 ∷ 254 ∷ 255 ∷ 255 ∷ 255 ∷ 0x52 ∷ 3 ∷ 0 ∷ 5 ∷ 0 ∷ 0 ∷ 0 ∷ 0x4D ∷ 0 ∷ 0 ∷ 0 ∷ 0x3E ∷ 0x4B ∷ 0 ∷ 0 ∷ 0xC0 ∷ 0xBE ∷ 0x56 ∷ 0 ∷ 0 ∷ 0 ∷ 128 ∷ 0x45 ∷ []

scans : scanning whole ≡ gives (taken 2 (258 ∷ 3 ∷ 0 ∷ 0 ∷ 0 ∷ 0 ∷ 0 ∷ 0 ∷ []) 9 7 9)
unfolding computing whole
scans = refl

-- the commands of that tape by their positions; past its end, and inside an operand, there is none
decodes : (decoding whole 0 ≡ placed (axis 258) 3)
    × (decoding whole 6 ≡ placed (boards 9) 8)
    × (decoding whole 8 ≡ placed (points 1 (Reading'.Centimetres (negsuc 1))) 13)
    × (decoding whole 13 ≡ placed (points 3 (Reading'.Centimetres (pos 5))) 20)
    × (decoding whole 20 ≡ placed (points 1 (Reading'.Metres (of_bits binary32 0x3E000000))) 25)
    × (decoding whole 25 ≡ placed (points 1 (Reading'.Kilometres (of_bits binary32 0xBEC00000))) 30)
    × (decoding whole 35 ≡ placed end 36)
    × (decoding whole 36 ≡ nothing)
    × (decoding whole 1 ≡ nothing)
unfolding computing whole
decodes = (refl, refl, refl, refl, refl, refl, refl, refl, refl)

-- the plainest tape of lengths 3 and 515, p 2, points −3, 258, −2^31; and one of readings, 0.125 m, −0.375 km and 7 cm
writes : (written (3 ∷ 515 ∷ []) 2 (negsuc 2 ∷ pos 258 ∷ negsuc 2147483647 ∷ [])
    ≡ 0x41 ∷ 3 ∷ 0 ∷ 0x41 ∷ 3 ∷ 2 ∷ 0x42 ∷ 2 ∷ 0x56 ∷ 253 ∷ 255 ∷ 255 ∷ 255 ∷ 0x56 ∷ 2 ∷ 1 ∷ 0 ∷ 0 ∷ 0x56 ∷ 0 ∷ 0 ∷ 0 ∷ 128 ∷ 0x45 ∷ [])
    × (logged (3 ∷ []) 1 (metres 0x3E000000 ∷ kilometres 0xBEC00000 ∷ centimetres (pos 7) ∷ [])
    ≡ 0x41 ∷ 3 ∷ 0 ∷ 0x42 ∷ 1 ∷ 0x4D ∷ 0 ∷ 0 ∷ 0 ∷ 0x3E ∷ 0x4B ∷ 0 ∷ 0 ∷ 0xC0 ∷ 0xBE ∷ 0x56 ∷ 7 ∷ 0 ∷ 0 ∷ 0 ∷ 0x45 ∷ [])
unfolding computing
writes = (refl, refl)

-- a slice of eight cells: the last is left as it was; one of seven is filled; one of six is refused and left
reads : (reading whole (replicate 8 (pos 77)) ≡ (negsuc 1 ∷ pos 5 ∷ pos 5 ∷ pos 5 ∷ pos 12 ∷ negsuc 37499 ∷ negsuc 2147483647 ∷ pos 77 ∷ []))
    × (reading_refusal whole 7 ≡ 0)
    × (reading_refusal whole 6 ≡ 11)
    × (reading whole (replicate 6 (pos 77)) ≡ replicate 6 (pos 77))
unfolding computing whole
reads = (refl, refl, refl, refl)

-- a tape without a 41 or without points keeps the form; more than eight axes are counted, and the first eight told
kept : (scanning (0x42 ∷ 255 ∷ 0x45 ∷ []) ≡ gives (taken 0 (replicate 8 0) 255 0 2))
    × (scanning (0x41 ∷ 1 ∷ 0 ∷ 0x41 ∷ 2 ∷ 0 ∷ 0x41 ∷ 3 ∷ 0 ∷ 0x41 ∷ 4 ∷ 0 ∷ 0x41 ∷ 5 ∷ 0 ∷ 0x41 ∷ 6 ∷ 0 ∷ 0x41 ∷ 7 ∷ 0 ∷ 0x41 ∷ 8 ∷ 0 ∷ 0x41 ∷ 9 ∷ 0 ∷ 0x42 ∷ 0 ∷ 0x45 ∷ []) ≡ gives (taken 9 (1 ∷ 2 ∷ 3 ∷ 4 ∷ 5 ∷ 6 ∷ 7 ∷ 8 ∷ []) 0 0 11))
unfolding computing
kept = (refl, refl)

unfoldable pub refusals : List (List ℕ) → List ℕ
refusals [] = []
refusals (t ∷ r) = scan_refusal t ∷ refusals r

-- refused 2: empty; no 42; no 45; a second 42; a 41 after the 42; a point, metres and kilometres before the 42; a byte after the 45; a second 45; a count of 0; another command; operands cut short
departs : refusals ([] ∷ (0x41 ∷ 2 ∷ 0 ∷ 0x45 ∷ []) ∷ (0x42 ∷ 0 ∷ []) ∷ (0x42 ∷ 0 ∷ 0x42 ∷ 0 ∷ 0x45 ∷ []) ∷ (0x42 ∷ 0 ∷ 0x41 ∷ 2 ∷ 0 ∷ 0x45 ∷ []) ∷ (0x56 ∷ 1 ∷ 0 ∷ 0 ∷ 0 ∷ 0x42 ∷ 0 ∷ 0x45 ∷ []) ∷ (0x4D ∷ 0 ∷ 0 ∷ 0 ∷ 0 ∷ 0x42 ∷ 0 ∷ 0x45 ∷ []) ∷ (0x4B ∷ 0 ∷ 0 ∷ 0 ∷ 0 ∷ 0x42 ∷ 0 ∷ 0x45 ∷ []) ∷ (0x42 ∷ 0 ∷ 0x45 ∷ 10 ∷ []) ∷ (0x42 ∷ 0 ∷ 0x45 ∷ 0x45 ∷ []) ∷ (0x42 ∷ 0 ∷ 0x52 ∷ 0 ∷ 0 ∷ 1 ∷ 0 ∷ 0 ∷ 0 ∷ 0x45 ∷ []) ∷ (0x42 ∷ 0 ∷ 0x46 ∷ 0x45 ∷ []) ∷ (0x41 ∷ 2 ∷ []) ∷ (0x42 ∷ []) ∷ (0x42 ∷ 0 ∷ 0x56 ∷ 1 ∷ 0 ∷ 0 ∷ []) ∷ (0x42 ∷ 0 ∷ 0x4D ∷ 1 ∷ 0 ∷ 0 ∷ []) ∷ (0x42 ∷ 0 ∷ 0x4B ∷ []) ∷ (0x42 ∷ 0 ∷ 0x52 ∷ 1 ∷ 0 ∷ 1 ∷ 0 ∷ 0 ∷ []) ∷ []) ≡ replicate 18 2
unfolding computing refusals
departs = refl

-- an infinity in metres, and 21,474,838 m, which is too far
abbrev infinite : List ℕ
infinite = 0x4D ∷ 0 ∷ 0 ∷ 0x80 ∷ 0x7F ∷ []

abbrev far : List ℕ
far = 0x4D ∷ 0x0B ∷ 0xD7 ∷ 0xA3 ∷ 0x4B ∷ []

abbrev near : List ℕ
near = 0x4D ∷ 0x0A ∷ 0xD7 ∷ 0xA3 ∷ 0x4B ∷ []

-- the first offending reading decides, after good ones too; a departure from the form comes before it, be it ahead of the reading or after it; so does the length.
-- The same bytes in a 52 are whole centimetres.
offends : refusals ((0x42 ∷ 0 ∷ infinite ++ (0x45 ∷ [])) ∷ (0x42 ∷ 0 ∷ far ++ (0x45 ∷ [])) ∷ (0x42 ∷ 0 ∷ infinite ++ (far ++ (0x45 ∷ []))) ∷ (0x42 ∷ 0 ∷ far ++ (infinite ++ (0x45 ∷ []))) ∷ (0x42 ∷ 0 ∷ near ++ (far ++ (0x45 ∷ []))) ∷ (0x42 ∷ 0 ∷ near ++ (0x45 ∷ [])) ∷ (0x42 ∷ 0 ∷ infinite ++ []) ∷ (0x42 ∷ 0 ∷ infinite ++ (0x46 ∷ 0x45 ∷ [])) ∷ (0x42 ∷ 0 ∷ far ++ (0x45 ∷ 10 ∷ [])) ∷ (0x41 ∷ 0 ∷ 0 ∷ infinite ++ (0x42 ∷ 0 ∷ 0x45 ∷ [])) ∷ (0x42 ∷ 0 ∷ infinite ++ replicate 65536 0x45) ∷ (0x42 ∷ 0 ∷ 0x52 ∷ 1 ∷ 0 ∷ 0 ∷ 0 ∷ 0x80 ∷ 0x7F ∷ 0x45 ∷ []) ∷ []) ≡ 14 ∷ 15 ∷ 14 ∷ 15 ∷ 15 ∷ 0 ∷ 2 ∷ 2 ∷ 2 ∷ 2 ∷ 1 ∷ 0 ∷ []
unfolding computing refusals
offends = refl

-- 65,536 bytes are allowed, one more is refused before the form is judged
lengths_of_tapes : refusals ((0x41 ∷ 2 ∷ 0 ∷ replicate 65533 0x42) ∷ (0x41 ∷ 2 ∷ 0 ∷ replicate 65534 0x42) ∷ []) ≡ 2 ∷ 1 ∷ []
unfolding computing refusals
lengths_of_tapes = refl

-- the scans that compare lists
unfoldable scanned_all : List Scanned → List (Reply Scan)
scanned_all [] = []
scanned_all (s ∷ r) = scanning s.tape ∷ scanned_all r

unfoldable listed_scans : List Scanned → List (Reply Scan)
listed_scans [] = []
listed_scans (s ∷ r) =
    answered s.refusal (record { axes = s.axes; lengths = s.lengths; p = s.p; points = s.points; commands = s.commands }) ∷ listed_scans r

scans_listed : scanned_all Listed.scans ≡ listed_scans Listed.scans
unfolding computing Listed.scans scanned_all listed_scans
scans_listed = refl
