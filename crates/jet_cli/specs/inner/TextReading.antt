-- What the reading of a text from an opened file does.
use Rattle.std.specs.Prelude.{◌≡◌, ℕ, ◌<◌, ◌≤◌, List, [], length, sum, All}
use Rattle.jet_file.specs.Outside.{Told, rest_of}
use Rattle.jet_file.specs.Reading.{HasRead}
use Rattle.jet_worker.specs.Calls.{ArePieces}
use Rattle.jet_worker.specs.Feeding.{StopsReads}
use Rattle.jet_worker.specs.declared.stop.Spot.{Spot}
use Rattle.jet_worker.specs.declared.stop.Stop.{Stop}
use Rattle.jet_cli.specs.CallOrder.{AreBeforeEnd}

-- this text of the file was read, piece by piece, and no read found the end
pub record TakesText (file : ℕ) (text : List ℕ) (old now : Told) : Type 0 where
  pub read : HasRead file text old now
  pub pieces : ArePieces read.counts
  pub live : All (λ n. 0 < n) read.counts

-- the text is what is left of the file, but for what goes beyond so many bytes; nothing was read behind the end
pub record ReadsFront (file most : ℕ) (text : List ℕ) (old new : Told) : Type 0 where
  pub read : HasRead file text old new
  pub pieces : ArePieces read.counts
  pub live : AreBeforeEnd read.counts
  pub short : length text ≤ most
  pub all : length text < most → rest_of new file ≡ []

-- the reading stopped; no more bytes were taken than so many, and none behind the end
pub record StopsReading (spot : Spot) (file most : ℕ) (stop : Stop) (old new : Told) : Type 0 where
  pub reads : StopsReads spot file stop old new
  pub live : AreBeforeEnd reads.counts
  pub few : sum reads.counts ≤ most
