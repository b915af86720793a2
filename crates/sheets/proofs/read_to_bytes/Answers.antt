-- `sheets::read_to_bytes` meets its contract: a refused sheet reads as a plan by default. Assumes nothing.
use Rattle.std.proofs.Common.{◌∙◌, arith}
use Rattle.sheets.proofs.Reader.{plan_written}
use Rattle.sheets.proofs.read_to_bytes.Goals as goal

pub returns-in_err-reading-2-clause-plan_after : goal.returns-in_err-reading-2-clause-plan_after
returns-in_err-reading-2-clause-plan_after c =
    c.encode_plan.ensures ∙ plan_written c.args.sheet.now c.args.plan.now _ _ c.read_sheet-reading.ensures c.unwrap_or_default.ensures (omega arith)

pub returns-clause-plan_after : goal.returns-clause-plan_after
returns-clause-plan_after c =
    c.encode_plan.ensures ∙ plan_written c.args.sheet.now c.args.plan.now _ _ c.read_sheet-reading.ensures c.unwrap_or_default.ensures (omega arith)
