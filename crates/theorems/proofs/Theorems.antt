-- What a user can rely on, a theorem each: its statement stands in specs/ of the crate that its `use` names.
use Rattle.model.specs.Scenarios.{ScenariosClaim}
use Rattle.model.specs.Run.{WholeListClaim, RecoverableClaim}
use Rattle.model.specs.FullLog.{FullLogClaim}
use Rattle.model.proofs.Scenarios as table
use Rattle.model.proofs.FullLog as full
use Rattle.model.proofs.WholeList as list
use Rattle.reading.specs.Claim.{ReadingClaim, StreamClaim}
use Rattle.reading.specs.Examples.{ExamplesClaim}
use Rattle.reading.proofs.Streams as stream
use Rattle.reading.proofs.WayBack as reading
use Rattle.runner.specs.Claim.{CodeClaim, HandedBackClaim}
use Rattle.runner.proofs.Claim as code

-- Of every list of steps that begins with a recovery, refused and cut steps included, a cut after any single store,
-- also inside a recovery: after every recovery answered done, home equals the account book.
pub whole-list : WholeListClaim
whole-list = list.whole-list

-- After any such list a recovery is done or cut and never refused, with a supply of L+1 it is done, and the state
-- handed back last is lost or consistent.
pub always-recoverable : RecoverableClaim
always-recoverable = list.always-recoverable

-- Of a list that the code runs, by the answers that it wrote: at each recovery answered done home equals the book.
pub each-recovery : CodeClaim
each-recovery = code.code-claim

-- Where the last step of the list is such a recovery, the home words that the code hands back equal the book.
pub handed-back : HandedBackClaim
handed-back = code.handed-back

-- A step is answered 10, 16 or 17 exactly where document 01 answers 10, the number follows from the verdict on the
-- oldest record, and it is 10 exactly where a delete isn't answered 15.
pub why-full : FullLogClaim
why-full = full.full-log

-- P1 to P11 of document 01, "Plausible, and wrong", some edges and full logs come out as the papers say.
pub worked-scenarios : ScenariosClaim
worked-scenarios = table.scenarios-pass

-- A printed reading leads back to its word, and so no two words print alike; every other text is refused; a reading has
-- 3 to 21 bytes.
pub readings-lead-back : ReadingClaim
readings-lead-back = reading.reading-claim

-- A text of words, one to a line, may be read in any pieces, into buffers with room: the readings printed are those of
-- its lines.
pub readings-in-pieces : StreamClaim
readings-in-pieces = stream.stream-claim

-- The worked examples of document 02, [2], and the largest count.
pub worked-readings : ExamplesClaim
worked-readings = reading.examples-print
