-- Small tapes with what a scan tells of each. Written by `compare table scans`, which makes lists of what it reads and counts these.
use Prim.Native.Nat.{ℕ}
use mathlib.Core.List.{List, [], ◌∷◌}

-- `refusal` is 0 for a tape that is taken, and all else is 0 where it is not; `lengths` has the first eight, and 0 past the last axis
pub record Scanned : Type 0 where
  pub tape : List ℕ
  pub refusal : ℕ
  pub axes : ℕ
  pub lengths : List ℕ
  pub p : ℕ
  pub points : ℕ
  pub commands : ℕ

unfoldable pub scans : List Scanned
scans =
    -- no axes and no points, p 3
    record { tape = 0x42 ∷ 3 ∷ 0x45 ∷ []; refusal = 0; axes = 0; lengths = 0 ∷ 0 ∷ 0 ∷ 0 ∷ 0 ∷ 0 ∷ 0 ∷ 0 ∷ []; p = 3; points = 0; commands = 2 }
    -- a 41 of length 258
    ∷ record { tape = 0x41 ∷ 2 ∷ 1 ∷ 0x42 ∷ 0 ∷ 0x45 ∷ []; refusal = 0; axes = 1; lengths = 258 ∷ 0 ∷ 0 ∷ 0 ∷ 0 ∷ 0 ∷ 0 ∷ 0 ∷ []; p = 0; points = 0; commands = 3 }
    -- a 56
    ∷ record { tape = 0x42 ∷ 0 ∷ 0x56 ∷ 254 ∷ 255 ∷ 255 ∷ 255 ∷ 0x45 ∷ []; refusal = 0; axes = 0; lengths = 0 ∷ 0 ∷ 0 ∷ 0 ∷ 0 ∷ 0 ∷ 0 ∷ 0 ∷ []; p = 0; points = 1; commands = 3 }
    -- a 4D
    ∷ record { tape = 0x42 ∷ 0 ∷ 0x4D ∷ 0 ∷ 0 ∷ 0 ∷ 62 ∷ 0x45 ∷ []; refusal = 0; axes = 0; lengths = 0 ∷ 0 ∷ 0 ∷ 0 ∷ 0 ∷ 0 ∷ 0 ∷ 0 ∷ []; p = 0; points = 1; commands = 3 }
    -- a 4B
    ∷ record { tape = 0x42 ∷ 0 ∷ 0x4B ∷ 0 ∷ 0 ∷ 192 ∷ 190 ∷ 0x45 ∷ []; refusal = 0; axes = 0; lengths = 0 ∷ 0 ∷ 0 ∷ 0 ∷ 0 ∷ 0 ∷ 0 ∷ 0 ∷ []; p = 0; points = 1; commands = 3 }
    -- a 52 of 1
    ∷ record { tape = 0x42 ∷ 0 ∷ 0x52 ∷ 1 ∷ 0 ∷ 5 ∷ 0 ∷ 0 ∷ 0 ∷ 0x45 ∷ []; refusal = 0; axes = 0; lengths = 0 ∷ 0 ∷ 0 ∷ 0 ∷ 0 ∷ 0 ∷ 0 ∷ 0 ∷ []; p = 0; points = 1; commands = 3 }
    -- a 52 of 2
    ∷ record { tape = 0x42 ∷ 0 ∷ 0x52 ∷ 2 ∷ 0 ∷ 255 ∷ 255 ∷ 255 ∷ 255 ∷ 0x45 ∷ []; refusal = 0; axes = 0; lengths = 0 ∷ 0 ∷ 0 ∷ 0 ∷ 0 ∷ 0 ∷ 0 ∷ 0 ∷ []; p = 0; points = 2; commands = 3 }
    -- a 52 of 256, its lower byte 0
    ∷ record { tape = 0x42 ∷ 0 ∷ 0x52 ∷ 0 ∷ 1 ∷ 1 ∷ 0 ∷ 0 ∷ 0 ∷ 0x45 ∷ []; refusal = 0; axes = 0; lengths = 0 ∷ 0 ∷ 0 ∷ 0 ∷ 0 ∷ 0 ∷ 0 ∷ 0 ∷ []; p = 0; points = 256; commands = 3 }
    -- a 52 of 258
    ∷ record { tape = 0x42 ∷ 0 ∷ 0x52 ∷ 2 ∷ 1 ∷ 1 ∷ 0 ∷ 0 ∷ 0 ∷ 0x45 ∷ []; refusal = 0; axes = 0; lengths = 0 ∷ 0 ∷ 0 ∷ 0 ∷ 0 ∷ 0 ∷ 0 ∷ 0 ∷ []; p = 0; points = 258; commands = 3 }
    -- a 52 of 65,535
    ∷ record {
      tape = 0x42 ∷ 0 ∷ 0x52 ∷ 255 ∷ 255 ∷ 0 ∷ 0 ∷ 0 ∷ 128 ∷ 0x45 ∷ [];
      refusal = 0;
      axes = 0;
      lengths = 0 ∷ 0 ∷ 0 ∷ 0 ∷ 0 ∷ 0 ∷ 0 ∷ 0 ∷ [];
      p = 0;
      points = 65535;
      commands = 3;
    }
    -- 52s of 65,535 and of 2
    ∷ record {
      tape = 0x42 ∷ 0 ∷ 0x52 ∷ 255 ∷ 255 ∷ 1 ∷ 0 ∷ 0 ∷ 0 ∷ 0x52 ∷ 2 ∷ 0 ∷ 1 ∷ 0 ∷ 0 ∷ 0 ∷ 0x45 ∷ [];
      refusal = 0;
      axes = 0;
      lengths = 0 ∷ 0 ∷ 0 ∷ 0 ∷ 0 ∷ 0 ∷ 0 ∷ 0 ∷ [];
      p = 0;
      points = 65537;
      commands = 4;
    }
    -- five points by 56s
    ∷ record {
      tape = 0x41 ∷ 5 ∷ 0 ∷ 0x42 ∷ 1 ∷ 0x56 ∷ 50 ∷ 0 ∷ 0 ∷ 0 ∷ 0x56 ∷ 50 ∷ 0 ∷ 0 ∷ 0 ∷ 0x56 ∷ 50 ∷ 0 ∷ 0 ∷ 0 ∷ 0x56 ∷ 50 ∷ 0 ∷ 0 ∷ 0 ∷ 0x56 ∷ 50 ∷ 0 ∷ 0 ∷ 0 ∷ 0x45 ∷ [];
      refusal = 0;
      axes = 1;
      lengths = 5 ∷ 0 ∷ 0 ∷ 0 ∷ 0 ∷ 0 ∷ 0 ∷ 0 ∷ [];
      p = 1;
      points = 5;
      commands = 8;
    }
    -- the same by a 52
    ∷ record {
      tape = 0x41 ∷ 5 ∷ 0 ∷ 0x42 ∷ 1 ∷ 0x52 ∷ 5 ∷ 0 ∷ 50 ∷ 0 ∷ 0 ∷ 0 ∷ 0x45 ∷ [];
      refusal = 0;
      axes = 1;
      lengths = 5 ∷ 0 ∷ 0 ∷ 0 ∷ 0 ∷ 0 ∷ 0 ∷ 0 ∷ [];
      p = 1;
      points = 5;
      commands = 4;
    }
    -- the same by two 52s
    ∷ record {
      tape = 0x41 ∷ 5 ∷ 0 ∷ 0x42 ∷ 1 ∷ 0x52 ∷ 2 ∷ 0 ∷ 50 ∷ 0 ∷ 0 ∷ 0 ∷ 0x52 ∷ 3 ∷ 0 ∷ 50 ∷ 0 ∷ 0 ∷ 0 ∷ 0x45 ∷ [];
      refusal = 0;
      axes = 1;
      lengths = 5 ∷ 0 ∷ 0 ∷ 0 ∷ 0 ∷ 0 ∷ 0 ∷ 0 ∷ [];
      p = 1;
      points = 5;
      commands = 5;
    }
    -- the same by a 56, a 52 and a 56
    ∷ record {
      tape = 0x41 ∷ 5 ∷ 0 ∷ 0x42 ∷ 1 ∷ 0x56 ∷ 50 ∷ 0 ∷ 0 ∷ 0 ∷ 0x52 ∷ 3 ∷ 0 ∷ 50 ∷ 0 ∷ 0 ∷ 0 ∷ 0x56 ∷ 50 ∷ 0 ∷ 0 ∷ 0 ∷ 0x45 ∷ [];
      refusal = 0;
      axes = 1;
      lengths = 5 ∷ 0 ∷ 0 ∷ 0 ∷ 0 ∷ 0 ∷ 0 ∷ 0 ∷ [];
      p = 1;
      points = 5;
      commands = 6;
    }
    -- the same by 4Ds
    ∷ record {
      tape = 0x41 ∷ 5 ∷ 0 ∷ 0x42 ∷ 1 ∷ 0x4D ∷ 0 ∷ 0 ∷ 0 ∷ 63 ∷ 0x4D ∷ 0 ∷ 0 ∷ 0 ∷ 63 ∷ 0x4D ∷ 0 ∷ 0 ∷ 0 ∷ 63 ∷ 0x4D ∷ 0 ∷ 0 ∷ 0 ∷ 63 ∷ 0x4D ∷ 0 ∷ 0 ∷ 0 ∷ 63 ∷ 0x45 ∷ [];
      refusal = 0;
      axes = 1;
      lengths = 5 ∷ 0 ∷ 0 ∷ 0 ∷ 0 ∷ 0 ∷ 0 ∷ 0 ∷ [];
      p = 1;
      points = 5;
      commands = 8;
    }
    -- eight axes
    ∷ record {
      tape = 0x41 ∷ 2 ∷ 0 ∷ 0x41 ∷ 3 ∷ 0 ∷ 0x41 ∷ 4 ∷ 0 ∷ 0x41 ∷ 5 ∷ 0 ∷ 0x41 ∷ 6 ∷ 0 ∷ 0x41 ∷ 7 ∷ 0 ∷ 0x41 ∷ 8 ∷ 0 ∷ 0x41 ∷ 9 ∷ 0 ∷ 0x42 ∷ 10 ∷ 0x56 ∷ 0 ∷ 0 ∷ 0 ∷ 0 ∷ 0x45 ∷ [];
      refusal = 0;
      axes = 8;
      lengths = 2 ∷ 3 ∷ 4 ∷ 5 ∷ 6 ∷ 7 ∷ 8 ∷ 9 ∷ [];
      p = 10;
      points = 1;
      commands = 11;
    }
    -- nine axes: eight of the lengths are told
    ∷ record {
      tape = 0x41 ∷ 1 ∷ 0 ∷ 0x41 ∷ 2 ∷ 0 ∷ 0x41 ∷ 3 ∷ 0 ∷ 0x41 ∷ 4 ∷ 0 ∷ 0x41 ∷ 5 ∷ 0 ∷ 0x41 ∷ 6 ∷ 0 ∷ 0x41 ∷ 7 ∷ 0 ∷ 0x41 ∷ 8 ∷ 0 ∷ 0x41 ∷ 9 ∷ 0 ∷ 0x42 ∷ 0 ∷ 0x45 ∷ [];
      refusal = 0;
      axes = 9;
      lengths = 1 ∷ 2 ∷ 3 ∷ 4 ∷ 5 ∷ 6 ∷ 7 ∷ 8 ∷ [];
      p = 0;
      points = 0;
      commands = 11;
    }
    -- lengths 0 and 65,535, p 255
    ∷ record {
      tape = 0x41 ∷ 0 ∷ 0 ∷ 0x41 ∷ 255 ∷ 255 ∷ 0x42 ∷ 255 ∷ 0x45 ∷ [];
      refusal = 0;
      axes = 2;
      lengths = 0 ∷ 65535 ∷ 0 ∷ 0 ∷ 0 ∷ 0 ∷ 0 ∷ 0 ∷ [];
      p = 255;
      points = 0;
      commands = 4;
    }
    -- points of all kinds
    ∷ record {
      tape = 0x41 ∷ 2 ∷ 0 ∷ 0x41 ∷ 3 ∷ 0 ∷ 0x42 ∷ 2 ∷ 0x4B ∷ 0 ∷ 0 ∷ 0 ∷ 63 ∷ 0x52 ∷ 44 ∷ 1 ∷ 7 ∷ 0 ∷ 0 ∷ 0 ∷ 0x56 ∷ 1 ∷ 0 ∷ 0 ∷ 0 ∷ 0x4D ∷ 0 ∷ 0 ∷ 32 ∷ 64 ∷ 0x45 ∷ [];
      refusal = 0;
      axes = 2;
      lengths = 2 ∷ 3 ∷ 0 ∷ 0 ∷ 0 ∷ 0 ∷ 0 ∷ 0 ∷ [];
      p = 2;
      points = 303;
      commands = 8;
    }
    -- operands that are commands
    ∷ record {
      tape = 0x41 ∷ 65 ∷ 66 ∷ 0x42 ∷ 69 ∷ 0x56 ∷ 69 ∷ 69 ∷ 69 ∷ 69 ∷ 0x52 ∷ 69 ∷ 0 ∷ 75 ∷ 77 ∷ 82 ∷ 86 ∷ 0x45 ∷ [];
      refusal = 0;
      axes = 1;
      lengths = 16961 ∷ 0 ∷ 0 ∷ 0 ∷ 0 ∷ 0 ∷ 0 ∷ 0 ∷ [];
      p = 69;
      points = 70;
      commands = 5;
    }
    -- whole centimetres that would be an infinite float
    ∷ record {
      tape = 0x42 ∷ 0 ∷ 0x56 ∷ 0 ∷ 0 ∷ 128 ∷ 127 ∷ 0x52 ∷ 2 ∷ 0 ∷ 0 ∷ 0 ∷ 128 ∷ 127 ∷ 0x45 ∷ [];
      refusal = 0;
      axes = 0;
      lengths = 0 ∷ 0 ∷ 0 ∷ 0 ∷ 0 ∷ 0 ∷ 0 ∷ 0 ∷ [];
      p = 0;
      points = 3;
      commands = 4;
    }
    -- the last readings within the range
    ∷ record {
      tape = 0x42 ∷ 0 ∷ 0x4D ∷ 10 ∷ 215 ∷ 163 ∷ 75 ∷ 0x4B ∷ 172 ∷ 197 ∷ 167 ∷ 198 ∷ 0x45 ∷ [];
      refusal = 0;
      axes = 0;
      lengths = 0 ∷ 0 ∷ 0 ∷ 0 ∷ 0 ∷ 0 ∷ 0 ∷ 0 ∷ [];
      p = 0;
      points = 2;
      commands = 4;
    }
    -- refused 2: no byte
    ∷ record { tape = []; refusal = 2; axes = 0; lengths = 0 ∷ 0 ∷ 0 ∷ 0 ∷ 0 ∷ 0 ∷ 0 ∷ 0 ∷ []; p = 0; points = 0; commands = 0 }
    -- refused 2: a 45 alone
    ∷ record { tape = 0x45 ∷ []; refusal = 2; axes = 0; lengths = 0 ∷ 0 ∷ 0 ∷ 0 ∷ 0 ∷ 0 ∷ 0 ∷ 0 ∷ []; p = 0; points = 0; commands = 0 }
    -- refused 2: no 42
    ∷ record { tape = 0x41 ∷ 1 ∷ 0 ∷ 0x45 ∷ []; refusal = 2; axes = 0; lengths = 0 ∷ 0 ∷ 0 ∷ 0 ∷ 0 ∷ 0 ∷ 0 ∷ 0 ∷ []; p = 0; points = 0; commands = 0 }
    -- refused 2: no 45
    ∷ record { tape = 0x41 ∷ 1 ∷ 0 ∷ 0x42 ∷ 0 ∷ 0x56 ∷ 1 ∷ 0 ∷ 0 ∷ 0 ∷ []; refusal = 2; axes = 0; lengths = 0 ∷ 0 ∷ 0 ∷ 0 ∷ 0 ∷ 0 ∷ 0 ∷ 0 ∷ []; p = 0; points = 0; commands = 0 }
    -- refused 2: a byte after the 45
    ∷ record {
      tape = 0x41 ∷ 1 ∷ 0 ∷ 0x42 ∷ 0 ∷ 0x56 ∷ 1 ∷ 0 ∷ 0 ∷ 0 ∷ 0x45 ∷ 0x0A ∷ [];
      refusal = 2;
      axes = 0;
      lengths = 0 ∷ 0 ∷ 0 ∷ 0 ∷ 0 ∷ 0 ∷ 0 ∷ 0 ∷ [];
      p = 0;
      points = 0;
      commands = 0;
    }
    -- refused 2: a second 45
    ∷ record {
      tape = 0x41 ∷ 1 ∷ 0 ∷ 0x42 ∷ 0 ∷ 0x56 ∷ 1 ∷ 0 ∷ 0 ∷ 0 ∷ 0x45 ∷ 0x45 ∷ [];
      refusal = 2;
      axes = 0;
      lengths = 0 ∷ 0 ∷ 0 ∷ 0 ∷ 0 ∷ 0 ∷ 0 ∷ 0 ∷ [];
      p = 0;
      points = 0;
      commands = 0;
    }
    -- refused 2: a second 42
    ∷ record {
      tape = 0x41 ∷ 1 ∷ 0 ∷ 0x42 ∷ 0 ∷ 0x42 ∷ 0 ∷ 0x56 ∷ 1 ∷ 0 ∷ 0 ∷ 0 ∷ 0x45 ∷ [];
      refusal = 2;
      axes = 0;
      lengths = 0 ∷ 0 ∷ 0 ∷ 0 ∷ 0 ∷ 0 ∷ 0 ∷ 0 ∷ [];
      p = 0;
      points = 0;
      commands = 0;
    }
    -- refused 2: a 41 after the 42
    ∷ record { tape = 0x42 ∷ 0 ∷ 0x41 ∷ 1 ∷ 0 ∷ 0x56 ∷ 1 ∷ 0 ∷ 0 ∷ 0 ∷ 0x45 ∷ []; refusal = 2; axes = 0; lengths = 0 ∷ 0 ∷ 0 ∷ 0 ∷ 0 ∷ 0 ∷ 0 ∷ 0 ∷ []; p = 0; points = 0; commands = 0 }
    -- refused 2: a 56 before the 42
    ∷ record { tape = 0x41 ∷ 1 ∷ 0 ∷ 0x56 ∷ 1 ∷ 0 ∷ 0 ∷ 0 ∷ 0x42 ∷ 0 ∷ 0x45 ∷ []; refusal = 2; axes = 0; lengths = 0 ∷ 0 ∷ 0 ∷ 0 ∷ 0 ∷ 0 ∷ 0 ∷ 0 ∷ []; p = 0; points = 0; commands = 0 }
    -- refused 2: another command
    ∷ record {
      tape = 0x41 ∷ 1 ∷ 0 ∷ 0x42 ∷ 0 ∷ 0x46 ∷ 0x56 ∷ 1 ∷ 0 ∷ 0 ∷ 0 ∷ 0x45 ∷ [];
      refusal = 2;
      axes = 0;
      lengths = 0 ∷ 0 ∷ 0 ∷ 0 ∷ 0 ∷ 0 ∷ 0 ∷ 0 ∷ [];
      p = 0;
      points = 0;
      commands = 0;
    }
    -- refused 2: a 52 of 0
    ∷ record {
      tape = 0x41 ∷ 1 ∷ 0 ∷ 0x42 ∷ 0 ∷ 0x52 ∷ 0 ∷ 0 ∷ 1 ∷ 0 ∷ 0 ∷ 0 ∷ 0x56 ∷ 1 ∷ 0 ∷ 0 ∷ 0 ∷ 0x45 ∷ [];
      refusal = 2;
      axes = 0;
      lengths = 0 ∷ 0 ∷ 0 ∷ 0 ∷ 0 ∷ 0 ∷ 0 ∷ 0 ∷ [];
      p = 0;
      points = 0;
      commands = 0;
    }
    -- refused 2: a 41 cut short
    ∷ record { tape = 0x41 ∷ 1 ∷ []; refusal = 2; axes = 0; lengths = 0 ∷ 0 ∷ 0 ∷ 0 ∷ 0 ∷ 0 ∷ 0 ∷ 0 ∷ []; p = 0; points = 0; commands = 0 }
    -- refused 2: a 42 cut short
    ∷ record { tape = 0x42 ∷ []; refusal = 2; axes = 0; lengths = 0 ∷ 0 ∷ 0 ∷ 0 ∷ 0 ∷ 0 ∷ 0 ∷ 0 ∷ []; p = 0; points = 0; commands = 0 }
    -- refused 2: a 56 cut short
    ∷ record { tape = 0x42 ∷ 0 ∷ 0x56 ∷ 1 ∷ 0 ∷ 0 ∷ []; refusal = 2; axes = 0; lengths = 0 ∷ 0 ∷ 0 ∷ 0 ∷ 0 ∷ 0 ∷ 0 ∷ 0 ∷ []; p = 0; points = 0; commands = 0 }
    -- refused 2: a 52 cut short
    ∷ record { tape = 0x42 ∷ 0 ∷ 0x52 ∷ 2 ∷ 0 ∷ 1 ∷ 0 ∷ 0 ∷ []; refusal = 2; axes = 0; lengths = 0 ∷ 0 ∷ 0 ∷ 0 ∷ 0 ∷ 0 ∷ 0 ∷ 0 ∷ []; p = 0; points = 0; commands = 0 }
    -- refused 2: a 4D cut short
    ∷ record { tape = 0x42 ∷ 0 ∷ 0x4D ∷ 0 ∷ 0 ∷ 128 ∷ []; refusal = 2; axes = 0; lengths = 0 ∷ 0 ∷ 0 ∷ 0 ∷ 0 ∷ 0 ∷ 0 ∷ 0 ∷ []; p = 0; points = 0; commands = 0 }
    -- refused 2: a 4B cut short
    ∷ record { tape = 0x42 ∷ 0 ∷ 0x4B ∷ 0 ∷ 0 ∷ 128 ∷ []; refusal = 2; axes = 0; lengths = 0 ∷ 0 ∷ 0 ∷ 0 ∷ 0 ∷ 0 ∷ 0 ∷ 0 ∷ []; p = 0; points = 0; commands = 0 }
    -- refused 14: an infinite 4D
    ∷ record { tape = 0x42 ∷ 0 ∷ 0x4D ∷ 0 ∷ 0 ∷ 128 ∷ 127 ∷ 0x45 ∷ []; refusal = 14; axes = 0; lengths = 0 ∷ 0 ∷ 0 ∷ 0 ∷ 0 ∷ 0 ∷ 0 ∷ 0 ∷ []; p = 0; points = 0; commands = 0 }
    -- refused 14: a 4B that is no number
    ∷ record { tape = 0x42 ∷ 0 ∷ 0x4B ∷ 1 ∷ 0 ∷ 128 ∷ 127 ∷ 0x45 ∷ []; refusal = 14; axes = 0; lengths = 0 ∷ 0 ∷ 0 ∷ 0 ∷ 0 ∷ 0 ∷ 0 ∷ 0 ∷ []; p = 0; points = 0; commands = 0 }
    -- refused 15: a 4D past the range
    ∷ record { tape = 0x42 ∷ 0 ∷ 0x4D ∷ 11 ∷ 215 ∷ 163 ∷ 203 ∷ 0x45 ∷ []; refusal = 15; axes = 0; lengths = 0 ∷ 0 ∷ 0 ∷ 0 ∷ 0 ∷ 0 ∷ 0 ∷ 0 ∷ []; p = 0; points = 0; commands = 0 }
    -- refused 15: a 4B past the range
    ∷ record { tape = 0x42 ∷ 0 ∷ 0x4B ∷ 173 ∷ 197 ∷ 167 ∷ 70 ∷ 0x45 ∷ []; refusal = 15; axes = 0; lengths = 0 ∷ 0 ∷ 0 ∷ 0 ∷ 0 ∷ 0 ∷ 0 ∷ 0 ∷ []; p = 0; points = 0; commands = 0 }
    -- refused 14: an infinite 4D, then a 4B past the range
    ∷ record {
      tape = 0x42 ∷ 0 ∷ 0x4D ∷ 0 ∷ 0 ∷ 128 ∷ 127 ∷ 0x4B ∷ 173 ∷ 197 ∷ 167 ∷ 70 ∷ 0x45 ∷ [];
      refusal = 14;
      axes = 0;
      lengths = 0 ∷ 0 ∷ 0 ∷ 0 ∷ 0 ∷ 0 ∷ 0 ∷ 0 ∷ [];
      p = 0;
      points = 0;
      commands = 0;
    }
    -- refused 15: a 4B past the range, then an infinite 4D
    ∷ record {
      tape = 0x42 ∷ 0 ∷ 0x4B ∷ 173 ∷ 197 ∷ 167 ∷ 70 ∷ 0x4D ∷ 0 ∷ 0 ∷ 128 ∷ 127 ∷ 0x45 ∷ [];
      refusal = 15;
      axes = 0;
      lengths = 0 ∷ 0 ∷ 0 ∷ 0 ∷ 0 ∷ 0 ∷ 0 ∷ 0 ∷ [];
      p = 0;
      points = 0;
      commands = 0;
    }
    -- refused 15: good points, then a 4B past the range
    ∷ record {
      tape = 0x42 ∷ 0 ∷ 0x56 ∷ 1 ∷ 0 ∷ 0 ∷ 0 ∷ 0x52 ∷ 2 ∷ 0 ∷ 1 ∷ 0 ∷ 0 ∷ 0 ∷ 0x4D ∷ 0 ∷ 0 ∷ 128 ∷ 63 ∷ 0x4B ∷ 0 ∷ 0 ∷ 128 ∷ 63 ∷ 0x4B ∷ 173 ∷ 197 ∷ 167 ∷ 70 ∷ 0x45 ∷ [];
      refusal = 15;
      axes = 0;
      lengths = 0 ∷ 0 ∷ 0 ∷ 0 ∷ 0 ∷ 0 ∷ 0 ∷ 0 ∷ [];
      p = 0;
      points = 0;
      commands = 0;
    }
    -- refused 14: an infinite 4D, then good points
    ∷ record {
      tape = 0x42 ∷ 0 ∷ 0x4D ∷ 0 ∷ 0 ∷ 128 ∷ 127 ∷ 0x56 ∷ 1 ∷ 0 ∷ 0 ∷ 0 ∷ 0x52 ∷ 2 ∷ 0 ∷ 1 ∷ 0 ∷ 0 ∷ 0 ∷ 0x4D ∷ 0 ∷ 0 ∷ 128 ∷ 63 ∷ 0x4B ∷ 0 ∷ 0 ∷ 128 ∷ 63 ∷ 0x45 ∷ [];
      refusal = 14;
      axes = 0;
      lengths = 0 ∷ 0 ∷ 0 ∷ 0 ∷ 0 ∷ 0 ∷ 0 ∷ 0 ∷ [];
      p = 0;
      points = 0;
      commands = 0;
    }
    -- refused 14: lengths 0, p 255
    ∷ record {
      tape = 0x41 ∷ 0 ∷ 0 ∷ 0x41 ∷ 0 ∷ 0 ∷ 0x42 ∷ 255 ∷ 0x4D ∷ 0 ∷ 0 ∷ 128 ∷ 127 ∷ 0x45 ∷ [];
      refusal = 14;
      axes = 0;
      lengths = 0 ∷ 0 ∷ 0 ∷ 0 ∷ 0 ∷ 0 ∷ 0 ∷ 0 ∷ [];
      p = 0;
      points = 0;
      commands = 0;
    }
    -- refused 2: an infinite 4D, then a 52 of 0
    ∷ record {
      tape = 0x42 ∷ 0 ∷ 0x4D ∷ 0 ∷ 0 ∷ 128 ∷ 127 ∷ 0x52 ∷ 0 ∷ 0 ∷ 1 ∷ 0 ∷ 0 ∷ 0 ∷ 0x45 ∷ [];
      refusal = 2;
      axes = 0;
      lengths = 0 ∷ 0 ∷ 0 ∷ 0 ∷ 0 ∷ 0 ∷ 0 ∷ 0 ∷ [];
      p = 0;
      points = 0;
      commands = 0;
    }
    -- refused 2: a 52 of 0, then an infinite 4D
    ∷ record {
      tape = 0x42 ∷ 0 ∷ 0x52 ∷ 0 ∷ 0 ∷ 1 ∷ 0 ∷ 0 ∷ 0 ∷ 0x4D ∷ 0 ∷ 0 ∷ 128 ∷ 127 ∷ 0x45 ∷ [];
      refusal = 2;
      axes = 0;
      lengths = 0 ∷ 0 ∷ 0 ∷ 0 ∷ 0 ∷ 0 ∷ 0 ∷ 0 ∷ [];
      p = 0;
      points = 0;
      commands = 0;
    }
    -- refused 2: a 4B past the range, and no 45
    ∷ record { tape = 0x42 ∷ 0 ∷ 0x4B ∷ 173 ∷ 197 ∷ 167 ∷ 70 ∷ []; refusal = 2; axes = 0; lengths = 0 ∷ 0 ∷ 0 ∷ 0 ∷ 0 ∷ 0 ∷ 0 ∷ 0 ∷ []; p = 0; points = 0; commands = 0 }
    -- refused 2: an infinite 4D before the 42
    ∷ record { tape = 0x4D ∷ 0 ∷ 0 ∷ 128 ∷ 127 ∷ 0x42 ∷ 0 ∷ 0x45 ∷ []; refusal = 2; axes = 0; lengths = 0 ∷ 0 ∷ 0 ∷ 0 ∷ 0 ∷ 0 ∷ 0 ∷ 0 ∷ []; p = 0; points = 0; commands = 0 }
    -- refused 2: an infinite 4D after the 45
    ∷ record { tape = 0x42 ∷ 0 ∷ 0x45 ∷ 0x4D ∷ 0 ∷ 0 ∷ 128 ∷ 127 ∷ []; refusal = 2; axes = 0; lengths = 0 ∷ 0 ∷ 0 ∷ 0 ∷ 0 ∷ 0 ∷ 0 ∷ 0 ∷ []; p = 0; points = 0; commands = 0 }
    ∷ []
