use Rattle.std.proofs.Common.{ap, Vec}
use Rattle.std.specs.declared.alloc.Global.{Global}
use Rattle.tableau_branch.specs.Branch.{none}
use Rattle.numbered_branches.proofs.Changing.{branch_more}
use Rattle.numbered_theory.specs.Combined.{combined_at}
use Rattle.numbered_theory.specs.declared.entries.Entry.{Entry}
use Rattle.numbered_theory.proofs.CombinedMove.{combine_is, combine_gives}
use Rattle.numbered_theory.proofs.TriedPairs.{tried_more, listed_tried}
use Rattle.numbered_facts.proofs.Growing.{then}
use Rattle.numbered_theory.proofs.combining.combine.Goals as goal

pub list-requires : goal.list-requires
list-requires c = c.requires.tried.within

pub first_combined-requires : goal.first_combined-requires
first_combined-requires c = let m = c.entries.new.store in
    listed_tried m.terms c.list.new.self c.in_ok-entries.entries c.list.ensures.listed c.in_ok-entries.ensures.entries.0 c.list.ensures.within
    (c.list.ensures.tried m.terms (tried_more c.args.store.now.terms m.terms c.in_ok-entries.ensures.grows.terms c.args.tried.now c.requires.tried).tried)

pub returns-in_ok-add_combined-in-Some-clause-tries : goal.returns-in_ok-add_combined-in-Some-clause-tries
returns-in_ok-add_combined-in-Some-clause-tries c =
    let m = c.entries.new.store in let v = c.first_combined.new.store in
    let found = rw c.in-Some.is at c.in_ok-combined.ensures.attempts in
    let moved = c.in_ok-add_combined-in-Some.ensures.step in (
      moved.0,
      combine_gives c.args.store.now m c.args.branch c.in_ok-entries.entries.items c.list.new.self.entries.items (ap (λ (w : Vec Entry Global). w.items) c.list.ensures.listed) c.in_ok-entries.ensures.entries v c.in_ok-entries.ensures.grows c.in_ok-combined.ensures.grows c.requires.branch
          (combined_at v.terms c.in-Some.combined) _ found.1 moved.1,
    )

pub returns-in_ok-add_combined-in-Some-clause-tried : goal.returns-in_ok-add_combined-in-Some-clause-tried
returns-in_ok-add_combined-in-Some-clause-tried c = tried_more c.first_combined.new.store.terms c.add_combined.new.store.terms c.in_ok-add_combined-in-Some.ensures.grows.terms c.first_combined.new.self c.in_ok-combined.ensures.tried

pub returns-in-None-clause-tries : goal.returns-in-None-clause-tries
returns-in-None-clause-tries c =
    let n = c.args.store.now in let m = c.entries.new.store in let v = c.first_combined.new.store in
    let far = then n m v c.in_ok-entries.ensures.grows c.in_ok-combined.ensures.grows in
    let found = rw c.in-None.is at c.in_ok-combined.ensures.attempts in
    (branch_more n.terms v.terms far.terms c.args.branch c.requires.branch, combine_is n m c.args.branch c.in_ok-entries.entries.items c.list.new.self.entries.items (ap (λ (w : Vec Entry Global). w.items) c.list.ensures.listed) c.in_ok-entries.ensures.entries none found)

pub returns-in-None-clause-tried : goal.returns-in-None-clause-tried
returns-in-None-clause-tried c = c.in_ok-combined.ensures.tried

pub entries-requires-clause-branch : goal.entries-requires-clause-branch
entries-requires-clause-branch c = c.requires.branch

pub entries-requires-clause-vars : goal.entries-requires-clause-vars
entries-requires-clause-vars c = c.requires.vars

pub returns-in_err-entries-clause-grows : goal.returns-in_err-entries-clause-grows
returns-in_err-entries-clause-grows c = c.entries.ensures.grows

pub returns-in_err-place_entries-clause-grows : goal.returns-in_err-place_entries-clause-grows
returns-in_err-place_entries-clause-grows c = c.in_ok-entries.ensures.grows

pub returns-in_err-combined-clause-grows : goal.returns-in_err-combined-clause-grows
returns-in_err-combined-clause-grows c = then c.args.store.now c.entries.new.store c.first_combined.new.store c.in_ok-entries.ensures.grows c.first_combined.ensures.grows

pub returns-in_err-add_combined-in-Some-clause-grows : goal.returns-in_err-add_combined-in-Some-clause-grows
returns-in_err-add_combined-in-Some-clause-grows c = then c.args.store.now c.first_combined.new.store c.add_combined.new.store (then c.args.store.now c.entries.new.store c.first_combined.new.store c.in_ok-entries.ensures.grows c.in_ok-combined.ensures.grows) c.add_combined.ensures.grows

pub returns-in_ok-add_combined-in-Some-clause-grows : goal.returns-in_ok-add_combined-in-Some-clause-grows
returns-in_ok-add_combined-in-Some-clause-grows c = then c.args.store.now c.first_combined.new.store c.add_combined.new.store (then c.args.store.now c.entries.new.store c.first_combined.new.store c.in_ok-entries.ensures.grows c.in_ok-combined.ensures.grows) c.in_ok-add_combined-in-Some.ensures.grows

pub returns-in-None-clause-grows : goal.returns-in-None-clause-grows
returns-in-None-clause-grows c = then c.args.store.now c.entries.new.store c.first_combined.new.store c.in_ok-entries.ensures.grows c.in_ok-combined.ensures.grows

pub add_combined-requires-clause-branch : goal.add_combined-requires-clause-branch
add_combined-requires-clause-branch c = (branch_more c.args.store.now.terms c.first_combined.new.store.terms (then c.args.store.now c.entries.new.store c.first_combined.new.store c.in_ok-entries.ensures.grows c.in_ok-combined.ensures.grows).terms c.args.branch c.requires.branch).0

pub add_combined-requires-clause-combined : goal.add_combined-requires-clause-combined
add_combined-requires-clause-combined c = (rw c.in-Some.is at c.in_ok-combined.ensures.attempts).0
