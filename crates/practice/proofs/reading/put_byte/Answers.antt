-- `put_byte` does what a read of one byte leaves.
use Rattle.practice.proofs.Opened.{none_read, some_read}
use Rattle.practice.proofs.reading.put_byte.Goals as goal

pub returns-then-got-eq0 : goal.returns-then-got-eq0
returns-then-got-eq0 c = let a = c.args in none_read a.space.now a.used a.got a.b c.if-got-eq0.true

pub returns : goal.returns
returns c = let a = c.args in some_read a.space.now a.used a.got a.b c.if-got-eq0.false
