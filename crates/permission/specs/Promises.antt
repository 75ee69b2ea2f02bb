-- What the public function of this crate promises of its result. Assumes nothing.
use Rattle.std.specs.Prelude.{◌≡◌, Bool}
use Rattle.permission.specs.Table.{allowed}
use Rattle.permission.specs.declared.Operation.{Operation}
use Rattle.permission.specs.declared.Origin.{Origin}
use Rattle.permission.specs.declared.Target.{Target}

abbrev pub AllowedPromise : Operation → Origin → Target → Bool → Type 0
AllowedPromise operation origin target result = result ≡ allowed operation origin target
