use Rattle.std.proofs.Common.{sym, subst, ◌≤◌, List, length}
use Rattle.numbered_theory.specs.Entries.{entries_at}
use Rattle.numbered_theory.specs.Tried.{IsTried}
use Rattle.numbered_theory.specs.declared.entries.Entry.{Entry}
use Rattle.numbered_theory.proofs.tried.Tried.list.Goals as goal

pub still_tried-self-requires : goal.still_tried-self-requires
still_tried-self-requires c = subst (λ (es : List Entry). c.args.self.now.pairs ≤ length es) (sym c.deref-2.ensures.value) c.requires

pub returns-clause-within : goal.returns-clause-within
returns-clause-within c = subst (λ (es : List Entry). c.still_tried-self.result ≤ length es) c.deref.ensures.value c.still_tried-self.ensures.within

pub returns-clause-tried : goal.returns-clause-tried
returns-clause-tried c = λ ts h. subst (λ (es : List Entry). IsTried (entries_at ts es) c.still_tried-self.result) c.deref.ensures.value
    (c.still_tried-self.ensures.tried ts (subst (λ (es : List Entry). IsTried (entries_at ts es) c.args.self.now.pairs) (sym c.deref-2.ensures.value) h))
