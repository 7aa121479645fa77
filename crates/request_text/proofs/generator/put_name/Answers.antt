use Rattle.std.proofs.Common.{◌++◌, codes, decimal}
use Rattle.request_text.proofs.Joined.{further}
use Rattle.request_text.proofs.generator.put_name.Goals as goal

pub returns : goal.returns
returns c =
    let old = c.args.out.now.items in
    let name = codes "procedure P" in
    let number = decimal c.args.number in
    further old (name ++ number) (codes "(x: int) returns (r: int)\n") _ _ (further old name number _ _ c.in_ok-put.ensures c.in_ok-put_number.ensures) c.in_ok-put-2.ensures
