-- `copy_bytes` meets its contract. Assumes nothing.
use native.Mathlib.Omega.{arith}
use Rattle.sheet.proofs.Pastes.{put_part_is}
use Rattle.sheet.proofs.copying.copy_bytes.Goals as goal

pub returns : goal.returns
returns c = put_part_is c.args.u.now c.args.to _ _ c.args.s.now c.copy_from_slice.ensures.after (omega arith)
