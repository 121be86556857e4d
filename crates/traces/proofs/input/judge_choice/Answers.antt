use Rattle.traces.proofs.input.judge_choice.Goals as goal

pub returns : goal.returns
returns c = c.judge_line.ensures
