use Rattle.std.proofs.Common.{◌≡◌, ◌*◌, ◌^◌, ◌<◌}
use Rattle.request_text.specs.Generated.{state_after, generate}
use Rattle.request_text.proofs.generator.generate.Given as goal

-- two draws for each procedure so far
abbrev pub invariant-loop-k : goal.invariant-loop-k
invariant-loop-k l = record {
  drawn : l.state ≡ state_after l.seed (2 * l.k);
  small : l.state < 2 ^ 32;
  written : l.out.items ≡ generate l.seed l.k;
}
