-- Questions and answers cross threads: they hold nothing but numbers, vectors, boxes and shared pointers of what crosses threads.
use denote.Param.Send.{IsSend, IsSync, sendable}
use Rattle.std.proofs.Crossing.{crosses}
use Rattle.logic_core.proofs.sort.Sort.TheLaws.TheKnot as sorts
use Rattle.logic_core.proofs.term.Term.TheLaws.TheKnot as terms
use Rattle.proof_core.proofs.proof.Proof.TheLaws.TheKnot as proofs
use Rattle.logic_core.specs.contracts.sort.Sort as Sort
use Rattle.logic_core.specs.contracts.term.Term as Term
use Rattle.proof_core.specs.contracts.proof.Proof as Proof
use Rattle.obligation_text.specs.contracts.obligation.Obligation as Obligation
use Rattle.obligation_text.specs.contracts.asked.Asked as Asked
use Rattle.tableau.specs.contracts.settled.Settled as Settled

pub sort_send : IsSend Sort.the_row
sort_send = search (sendable, crosses, sorts.send-Sort) depth 30

pub sort_sync : IsSync Sort.the_row
sort_sync = search (sendable, crosses, sorts.sync-Sort) depth 30

pub term_send : IsSend Term.the_row
term_send = search (sendable, crosses, sort_send, terms.send-Term) depth 30

pub term_sync : IsSync Term.the_row
term_sync = search (sendable, crosses, sort_sync, terms.sync-Term) depth 30

pub proof_send : IsSend Proof.the_row
proof_send = search (sendable, crosses, term_send, proofs.send-Proof) depth 30

pub proof_sync : IsSync Proof.the_row
proof_sync = search (sendable, crosses, term_sync, proofs.sync-Proof) depth 30

pub obligation_send : IsSend Obligation.the_row
obligation_send = search (sendable, crosses, sort_send, term_send) depth 40

pub obligation_sync : IsSync Obligation.the_row
obligation_sync = search (sendable, crosses, sort_sync, term_sync) depth 40

pub asked_send : IsSend Asked.the_row
asked_send = search (sendable, crosses, obligation_send, obligation_sync) depth 30

pub asked_sync : IsSync Asked.the_row
asked_sync = search (sendable, crosses, obligation_send, obligation_sync) depth 30

pub settled_send : IsSend Settled.the_row
settled_send = search (sendable, crosses, proof_send, asked_send, asked_sync) depth 30

pub settled_sync : IsSync Settled.the_row
settled_sync = search (sendable, crosses, proof_sync, asked_send, asked_sync) depth 30

-- for the answers where threads are started
pub ruleset crossing = (crosses, asked_send, asked_sync, settled_send, settled_sync)
