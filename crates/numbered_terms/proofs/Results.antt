-- What is so whatever a call gives.
use Rattle.std.proofs.Common.{Result, Ok, Err, OnOk}

-- what is so is so of an Ok
pub on_ok : {A E P : Type 0} (r : Result A E) → P → OnOk r P
on_ok (Ok a) h = h
on_ok (Err e) h = tt
