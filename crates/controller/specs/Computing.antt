-- Names every definition, so that a fact that computes with them says `unfolding computing`.
use Rattle.std.specs.Prelude.{ℕ}
use Rattle.controller.specs.Bytes
use Rattle.plan_spec.specs.Computing as plan_spec

unfoldable pub computing : ℕ
unfolding Bytes.pairs Bytes.odd_bytes Bytes.asked_checks Bytes.asked_refusal Bytes.asking Bytes.wrong_result Bytes.controller_checks Bytes.controller_refusal Bytes.written_or Bytes.written Bytes.plan_in plan_spec.computing
computing = 0
