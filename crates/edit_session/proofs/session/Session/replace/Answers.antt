use Rattle.canonical_text.specs.RoundTrip.{AreWrittenDecls}
use Rattle.fault_text.specs.FaultView.{SourcesAreShort}
use Rattle.edit_session.proofs.Unchanged.{later_after, room_after}
use Rattle.edit_session.proofs.PutAgain.{there_still, put_still, answered_still}
use Rattle.edit_session.proofs.session.Session.replace.Goals as goal

pub take_replaced-requires-clause-there : goal.take_replaced-requires-clause-there
take_replaced-requires-clause-there g c = there_still _ _ _ _ c.in-Err.ensures.same c.in-Err.ensures.back c.requires.there

pub take_replaced-requires-clause-short : goal.take_replaced-requires-clause-short
take_replaced-requires-clause-short g c = put_still SourcesAreShort _ _ _ _ c.in-Err.ensures.same c.in-Err.ensures.back c.requires.short

pub take_replaced-requires-clause-written : goal.take_replaced-requires-clause-written
take_replaced-requires-clause-written g c = put_still (AreWrittenDecls 0) _ _ _ _ c.in-Err.ensures.same c.in-Err.ensures.back c.requires.written

pub take_replaced-requires-clause-room : goal.take_replaced-requires-clause-room
take_replaced-requires-clause-room g c = room_after _ _ c.in-Err.ensures.same c.requires.room

pub returns-in-Err-clause-answered : goal.returns-in-Err-clause-answered
returns-in-Err-clause-answered g c = answered_still _ _ _ _ _ _ c.in-Err.ensures.same c.in-Err.ensures.back c.take_replaced.ensures.answered

pub returns-in-Err-clause-later : goal.returns-in-Err-clause-later
returns-in-Err-clause-later g c = later_after _ _ _ c.in-Err.ensures.same c.take_replaced.ensures.later
