-- The answers of a merge and of a split in numbers. Assumes nothing.
use Rattle.lanes.specs.declared.MergeCycle.{MergeCycle}
use Rattle.lanes.specs.declared.SplitCycle.{SplitCycle}
use Rattle.lanes.specs.Answers.{Answer}
use Rattle.exports.specs.declared.wide.MergeStep.{MergeStep}
use Rattle.exports.specs.declared.wide.SplitStep.{SplitStep}
use Rattle.exports.specs.Numbers.{or_zero}

-- one for each call: a merge and a split show different things, and have different structs for C
abbrev pub merge_numbers : Answer MergeCycle → MergeStep
merge_numbers a = record { refusal = or_zero a.refusal; valid = a.outputs.valid; wide = a.outputs.wide; readies = a.outputs.readies }

abbrev pub split_numbers : Answer SplitCycle → SplitStep
split_numbers a = record { refusal = or_zero a.refusal; ready = a.outputs.ready; branches = a.outputs.branches }
