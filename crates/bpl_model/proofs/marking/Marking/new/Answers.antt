use Rattle.std.proofs.Common.{◌∙◌, ap}
use Rattle.bpl_model.specs.Marking.{marks_of}
use Rattle.bpl_model.proofs.MarksOf.{none_are}
use Rattle.bpl_model.proofs.marking.Marking.new.Goals as goal

pub returns : goal.returns
returns c = λ i. record { marks = (ap (marks_of c.args.count) c.new.ensures.empty ∙ none_are c.args.count) i; fresh = c.new-2.ensures.items i }
