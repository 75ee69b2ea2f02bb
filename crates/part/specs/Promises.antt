-- What each public function of this crate promises of its result. Assumes nothing.
use Rattle.std.specs.Prelude.{◌≡◌, Bool, ℕ, Option}
use Rattle.measure.specs.declared.ProgramAddress.{ProgramAddress}
use Rattle.permission.specs.declared.Origin.{Origin}
use Rattle.permission.specs.declared.Segment.{Segment}
use Rattle.permission.specs.declared.Target.{Target}
use Rattle.part.specs.Descriptions.{has_auxiliary, is_valid, is_sized, bench}
use Rattle.part.specs.Places.{place_at, is_implemented, is_auxiliary, running_at, from_general, segment_of, target_of}
use Rattle.part.specs.declared.Description.{Description}
use Rattle.part.specs.declared.Place.{Place}

abbrev pub BenchPromise : Description → Type 0
BenchPromise result = result ≡ bench

abbrev pub HasAuxiliaryPromise : Description → Bool → Type 0
HasAuxiliaryPromise description result = result ≡ has_auxiliary description

abbrev pub IsValidPromise : Description → Bool → Type 0
IsValidPromise description result = result ≡ is_valid description

abbrev pub IsSizedPromise : Description → ℕ → ℕ → Bool → Type 0
IsSizedPromise description general auxiliary result = result ≡ is_sized description general auxiliary

abbrev pub PlaceAtPromise : Description → ProgramAddress → Option Place → Type 0
PlaceAtPromise description address result = result ≡ place_at description address

abbrev pub IsImplementedPromise : Option Place → Bool → Type 0
IsImplementedPromise place result = result ≡ is_implemented place

abbrev pub IsAuxiliaryPromise : Option Place → Bool → Type 0
IsAuxiliaryPromise place result = result ≡ is_auxiliary place

abbrev pub RunningAtPromise : Description → ProgramAddress → Option Origin → Type 0
RunningAtPromise description pc result = result ≡ running_at description pc

abbrev pub FromGeneralPromise : Origin → Bool → Type 0
FromGeneralPromise origin result = result ≡ from_general origin

abbrev pub SegmentOfPromise : ℕ → Place → Segment → Type 0
SegmentOfPromise vectors place result = result ≡ segment_of vectors place

abbrev pub TargetOfPromise : Bool → ℕ → ℕ → Segment → Target → Type 0
TargetOfPromise keys fgs fas segment result = result ≡ target_of keys fgs fas segment
