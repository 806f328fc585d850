-- `totals::writing::print` hands on what was read; the report is that of any input that it was read from, since there was room for more bytes than a tape may have.
use Rattle.totals.proofs.Stopping.{ends_input}
use Rattle.totals.proofs.writing.print.Goals as goal

pub returns : goal.returns
returns c = λ input h. ends_input c.args.space.now input c.args.n c.print_tape.result c.requires.0 h c.print_tape.ensures
