use Rattle.std.proofs.Common.{◌++◌, codes, decimal}
use Rattle.request_text.proofs.Joined.{further}
use Rattle.request_text.proofs.generator.put_contract.Goals as goal

pub returns : goal.returns
returns c =
    let old = c.args.out.now.items in
    let one = codes "  requires " in
    let two = one ++ decimal c.args.a in
    let three = two ++ codes " <= x;\n  ensures r >= " in
    let four = three ++ decimal c.args.promised in
    further old four (codes ";\n") _ _
    (further old three (decimal c.args.promised) _ _ (further old two (codes " <= x;\n  ensures r >= ") _ _ (further old one (decimal c.args.a) _ _ c.in_ok-put.ensures c.in_ok-put_number.ensures) c.in_ok-put-2.ensures) c.in_ok-put_number-2.ensures)
    c.in_ok-put-3.ensures
