use Rattle.std.proofs.Common.{refl, Ok, Err}
use Rattle.bpl_grammar.specs.ReadPrograms.{read_decls}
use Rattle.bpl_parse.proofs.Programs.{known, stuck, ended, some_left, none_left, bounds, shorter, so_far}
use Rattle.bpl_parse.proofs.program.declarations.Goals as goal

pub declared-requires-clause-in_order : goal.declared-requires-clause-in_order
declared-requires-clause-in_order c =
    let l = some_left c.loop-rest.rest.now c.is_empty.result c.is_empty.ensures c.loop-rest-test.true in
    let g = known c.args.text.now c.loop-rest.rest.now c.first_declaration-read.result.0 (Ok c.in-Ok.body) c.first_declaration-read.result.1 c.in-Ok.is c.first_declaration-read.ensures in
    (bounds c.args.text.now c.args.tokens.now c.loop-rest.found.items c.loop-rest.axioms c.loop-rest.rest.now c.split_at.result.0.now c.split_at.result.1.now c.in-Ok.body c.first_declaration-read.result.1 c.start_of-start.result c.end_of-end.result
    c.loop-rest.invariant l g c.start_of-start.ensures c.end_of-end.ensures c.split_at.ensures.front c.split_at.ensures.back).0

pub declared-requires-clause-in_text : goal.declared-requires-clause-in_text
declared-requires-clause-in_text c =
    let l = some_left c.loop-rest.rest.now c.is_empty.result c.is_empty.ensures c.loop-rest-test.true in
    let g = known c.args.text.now c.loop-rest.rest.now c.first_declaration-read.result.0 (Ok c.in-Ok.body) c.first_declaration-read.result.1 c.in-Ok.is c.first_declaration-read.ensures in
    (bounds c.args.text.now c.args.tokens.now c.loop-rest.found.items c.loop-rest.axioms c.loop-rest.rest.now c.split_at.result.0.now c.split_at.result.1.now c.in-Ok.body c.first_declaration-read.result.1 c.start_of-start.result c.end_of-end.result
    c.loop-rest.invariant l g c.start_of-start.ensures c.end_of-end.ensures c.split_at.ensures.front c.split_at.ensures.back).1

pub loop-rest-smaller : goal.loop-rest-smaller
loop-rest-smaller c =
    let l = some_left c.loop-rest.rest.now c.is_empty.result c.is_empty.ensures c.loop-rest-test.true in
    let g = known c.args.text.now c.loop-rest.rest.now c.first_declaration-read.result.0 (Ok c.in-Ok.body) c.first_declaration-read.result.1 c.in-Ok.is c.first_declaration-read.ensures in
    shorter c.args.text.now c.args.tokens.now c.loop-rest.found.items c.loop-rest.axioms c.loop-rest.rest.now c.split_at.result.0.now c.split_at.result.1.now c.in-Ok.body c.first_declaration-read.result.1 c.start_of-start.result c.end_of-end.result
    c.loop-rest.invariant l g c.start_of-start.ensures c.end_of-end.ensures c.split_at.ensures.front c.split_at.ensures.back

pub loop-rest-preserved : goal.loop-rest-preserved
loop-rest-preserved c =
    let l = some_left c.loop-rest.rest.now c.is_empty.result c.is_empty.ensures c.loop-rest-test.true in
    let g = known c.args.text.now c.loop-rest.rest.now c.first_declaration-read.result.0 (Ok c.in-Ok.body) c.first_declaration-read.result.1 c.in-Ok.is c.first_declaration-read.ensures in
    so_far c.args.text.now c.args.tokens.now c.loop-rest.found.items c.loop-rest.axioms c.loop-rest.rest.now c.split_at.result.0.now c.split_at.result.1.now c.in-Ok.body c.first_declaration-read.result.1 c.start_of-start.result c.end_of-end.result
    c.loop-rest.invariant l g c.start_of-start.ensures c.end_of-end.ensures c.split_at.ensures.front c.split_at.ensures.back
    c.push.new.self.items c.in_ok-further-in-Ok.further c.axioms_with-axioms.result c.in_ok-further-in-Ok.further.body c.in_ok-push-in-Ok.ensures.items c.in_ok-further-in-Ok.ensures c.axioms_with-axioms.ensures refl

pub returns-in-Err : goal.returns-in-Err
returns-in-Err c =
    let l = some_left c.loop-rest.rest.now c.is_empty.result c.is_empty.ensures c.loop-rest-test.true in
    let g = known c.args.text.now c.loop-rest.rest.now c.first_declaration-read.result.0 (Err c.in-Err.stop) c.first_declaration-read.result.1 c.in-Err.is c.first_declaration-read.ensures in
    rw (c.stopped.ensures, c.byte_at.ensures, c.split_at.ensures.back)
    (stuck c.args.text.now c.loop-rest.found.items (read_decls c.args.text.now 0 c.args.tokens.now) c.loop-rest.axioms c.args.tokens.now c.loop-rest.rest.now c.in-Err.stop c.first_declaration-read.result.1 c.loop-rest.invariant.reads l g)

pub returns : goal.returns
returns c = ended c.args.text.now c.loop-rest.found.items (read_decls c.args.text.now 0 c.args.tokens.now) c.loop-rest.axioms c.args.tokens.now c.loop-rest.rest.now c.loop-rest.invariant.reads
    (none_left c.loop-rest.rest.now c.is_empty.result c.is_empty.ensures c.loop-rest-test.false)
