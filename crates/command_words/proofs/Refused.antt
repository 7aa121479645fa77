-- Words that clap refuses.
use Rattle.std.proofs.Common.{◌≡◌, List, [], ◌∷◌, None, Result, Ok, Err, refl, inl, inr}
use Rattle.std.specs.Prelude.{◌≢◌, IfErr}
use Rattle.std.specs.Result.{IsErrAnd}
use Rattle.clap.specs.Words.{Row, kind_of}
use Rattle.clap.specs.Kinds.{Kinds, HasKind}
use Rattle.clap.specs.declared.error.Error.{Error}
use Rattle.clap.specs.declared.error.kind.ErrorKind.TheVariants.{OutOfMemory}
use Rattle.command_words.specs.Reading.{unless_refused}
use Rattle.command_words.specs.declared.command.Command.{Command}
use Rattle.command_words.specs.declared.fault.Usage.{Usage}
use Rattle.command_words.specs.declared.fault.Usage.TheVariants.{NoReading}

-- an error for another reason than memory has a kind that the words have
no_reading : (kinds : Kinds) (rows : List Row) (e : Error) → HasKind kinds e → kind_of e ≢ OutOfMemory → unless_refused kinds rows ≡ None
no_reading [] rows e (inl memory) other = absurd (other memory)
no_reading [] rows e (inr none) other = absurd none
no_reading (k ∷ ks) rows e has other = refl

-- so what such an error becomes says that there is no reading, or nothing
pub refused : (r : Result Command Usage) (kinds : Kinds) (rows : List Row) (e : Error) → HasKind kinds e
    → IsErrAnd r (λ usage. usage ≡ NoReading → kind_of e ≢ OutOfMemory) → IfErr r (λ usage. usage ≡ NoReading → unless_refused kinds rows ≡ None)
refused (Ok command) kinds rows e has gives = absurd gives
refused (Err usage) kinds rows e has gives = λ is. no_reading kinds rows e has (gives is)
