-- The order of plain versions, which is the order of versions (`plains_compare`).
use Prim.Native.Nat.{compare}
use Rattle.order.specs.Compare.{Comparison, by, lex}
use Rattle.version_reading.specs.declared.plain.Plain.{Plain}
use Rattle.version_order.specs.Key.{key_of}
use Rattle.version_order.specs.Versions.{compare_key}

-- number by number
unfoldable pub compare_numbers : Comparison Plain
compare_numbers =
    lex (by (λ v. v.first) compare)
    (lex (by (λ v. v.second) compare)
    (lex (by (λ v. v.third) compare)
    (by (λ v. v.fourth) compare)))

unfoldable pub compare_plains : Comparison Plain
compare_plains = lex compare_numbers (by (λ v. key_of v.pre v.post v.dev) compare_key)
