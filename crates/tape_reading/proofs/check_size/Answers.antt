-- `tape_reading::check_size` meets its contract: by the order of sizes.
use Rattle.tape_reading.proofs.Sizes.{none_refused, far_refused, no_number_refused}
use Rattle.tape_reading.proofs.check_size.Goals as goal

pub returns-then-size-last : goal.returns-then-size-last
returns-then-size-last c = none_refused _ _ c.if-size-last.true

pub returns-then-size-lt-INFINITE : goal.returns-then-size-lt-INFINITE
returns-then-size-lt-INFINITE c = far_refused _ _ c.if-size-last.false c.if-size-lt-INFINITE.true

pub returns : goal.returns
returns c = no_number_refused _ _ c.if-size-lt-INFINITE.false
