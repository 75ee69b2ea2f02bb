-- Document 01, "Lists, printed table, page view": the page that holds an address. Assumes nothing.
use Rattle.std.specs.Prelude.{ℕ, ◌&&◌, List, [], length, if◌then◌else◌, Option, Some, None}
use Rattle.measure.specs.declared.ProgramAddress.{ProgramAddress}
use Rattle.flash.specs.Operations.{page_of}
use Rattle.measure.specs.Measures.{even}
use Rattle.part.specs.Descriptions.{page_words_of, is_valid, is_sized}
use Rattle.part.specs.Places.{place_at}
use Rattle.carrying.specs.CarryingOut.{array_of}
use Rattle.part.specs.declared.Description.{Description}
use Rattle.part.specs.declared.Place.{Place}

-- "the page holding an address, as a part of whichever flash array has it"
unfoldable pub page_in : ℕ → List ℕ → List ℕ → Option Place → List ℕ
page_in page general auxiliary None = []
page_in page general auxiliary (Some place) = page_of (array_of place.array general auxiliary) page place.index

-- "Refusals 7 and 8, and unimplemented or odd addresses, all give, without a number, the empty part at the
-- front of the GS array." That it is GS's is not a number, and is not said here.
unfoldable pub page_view : Description → List ℕ → List ℕ → ProgramAddress → List ℕ
page_view d general auxiliary a =
    if (is_valid d && is_sized d (length general) (length auxiliary)) && even a.0
    then page_in (page_words_of d) general auxiliary (place_at d a)
    else []
