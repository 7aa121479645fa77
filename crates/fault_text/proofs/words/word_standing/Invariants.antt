use Rattle.std.proofs.Common.{◌≡◌, length, drop}
use Rattle.std.specs.Prelude.{find}
use Rattle.bv_base.specs.Place.{place_at}
use Rattle.bpl_lex.specs.Spelled.{AreInOrder}
use Rattle.fault_text.specs.Words.{stands_at}
use Rattle.fault_text.proofs.words.word_standing.Given as goal

abbrev pub invariant-loop-token : goal.invariant-loop-token
invariant-loop-token l = record {
  first : find (stands_at l.text l.place) (drop l.token-index l.tokens) ≡ find (stands_at l.text l.place) l.tokens;
  known : l.here ≡ place_at l.text 0 l.at;
  ordered : AreInOrder l.at (length l.text) (drop l.token-index l.tokens);
}
