-- Names every definition, so that a fact that computes with them says `unfolding computing`.
use Rattle.std.specs.Prelude.{ℕ}
use Rattle.tape_spec.specs.Tapes
use Rattle.tape_spec.specs.Reading
use Rattle.tape_spec.specs.Decoding
use Rattle.tape_spec.specs.Writing
use Rattle.cube_spec.specs.Computing as cube_spec
use Rattle.tape_reading.specs.Computing as tape_reading

unfoldable pub computing : ℕ
unfolding Tapes.operand Tapes.single Tapes.repeated Tapes.first_of Tapes.first_then Tapes.commands_of Tapes.commands Tapes.entries_of Tapes.form_of Tapes.form Tapes.points_of Tapes.campaign Reading.too_long Reading.entry_checks Reading.scan_checks Reading.scan_refusal Reading.scanned_as Reading.scanning Reading.short_slice Reading.reading_checks Reading.reading_refusal Reading.filled_or Reading.reading Decoding.told Decoding.decoding Writing.bytes Writing.axis_command Writing.boards_command Writing.point_command Writing.repeat_command Writing.end_command Writing.each Writing.headed Writing.written Writing.logged_command Writing.logged_reading Writing.logged cube_spec.computing tape_reading.computing
computing = 0
