use Rattle.std.proofs.Common.{◌≡◌, ◌<◌, ℕ, sym, subst, length, get_or, take_all, arith}
use Rattle.std.specs.List.{All}
use Rattle.term_bank.specs.declared.table.Entry.{Entry}
use Rattle.term_bank.proofs.Tables.{reached_more}
use Rattle.term_bank.proofs.table.reached.Goals.{then-count-entry, else-count-entry}
use Rattle.term_bank.proofs.table.reached.Goals as goal

pub loop-entry-preserved : goal.loop-entry-preserved
loop-entry-preserved c =
    let l : c.loop-entry.entry-index < length c.args.entries.now = c.loop-entry-test.true in
    let q : c.entry-item.result ≡ get_or c.args.entries.now c.loop-entry.entry-index c.entry-item.result = c.entry-item.is in
    let w : (n : ℕ) → All (λ (d : Entry). d.place < n) c.args.entries.now → c.entry-item.result.place < n = λ n h. subst (λ (d : Entry). d.place < n) (sym q) (h c.loop-entry.entry-index c.entry-item.result l) in
    elim c.if-count-entry.branch [
      | then-count-entry b ↦ record {
        each = reached_more c.args.entries.now c.loop-entry.entry-index c.loop-entry.count c.if-count-entry.count c.entry-item.result l q c.loop-entry.invariant.each (omega (arith, b.if-count-entry, b.count-is)) (omega (arith, b.count-is));
        least = λ n h. omega (arith, w n h, b.count-is);
      }
      | else-count-entry b ↦ record {
        each = reached_more c.args.entries.now c.loop-entry.entry-index c.loop-entry.count c.if-count-entry.count c.entry-item.result l q c.loop-entry.invariant.each (omega (arith, b.count-is)) (omega (arith, b.if-count-entry, b.count-is));
        least = λ n h. omega (arith, c.loop-entry.invariant.least n h, b.count-is);
      }
    ]

pub returns-clause-each : goal.returns-clause-each
returns-clause-each c = subst (All (λ (d : Entry). d.place < c.loop-entry.count)) (take_all c.loop-entry.entry-index c.args.entries.now c.loop-entry-test.false) c.loop-entry.invariant.each
