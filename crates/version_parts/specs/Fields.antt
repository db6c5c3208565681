-- The fields while they are read: nothing yet, and one more number or segment; and the blank version.
use Rattle.std.specs.Prelude.{◌≡◌, ℕ, ◌+◌, set, replicate, None}
use Rattle.version_parts.specs.declared.fields.Release.{Release}
use Rattle.version_parts.specs.declared.fields.Span.{Span}
use Rattle.version_parts.specs.declared.fields.Local.{Local}
use Rattle.version_parts.specs.declared.fields.Version.{Version}

abbrev pub no_release : Release
no_release = record { numbers = replicate 16 0; len = 0 }

abbrev pub only_number : ℕ → Release
only_number n = record { numbers = set (replicate 16 0) 0 n; len = 1 }

abbrev pub pushed_number : Release → ℕ → Release
pushed_number r n = record { numbers = set r.numbers r.len n; len = r.len + 1 }

abbrev pub no_span : Span
no_span = record { start = 0; end = 0 }

abbrev pub no_local : Local
no_local = record { spans = replicate 16 no_span; len = 0 }

abbrev pub pushed_span : Local → Span → Local
pushed_span l g = record { spans = set l.spans l.len g; len = l.len + 1 }

abbrev pub no_version : Version
no_version = record { epoch = 0; release = no_release; pre = None; post = None; dev = None; local = no_local }

-- r is what the rule gives as `spec`; its length stands apart, where arithmetic can see it
pub record Numbers (spec r : Release) : Type 0 where
  pub is : r ≡ spec
  pub size : r.len ≡ spec.len

pub record Spans (spec r : Local) : Type 0 where
  pub is : r ≡ spec
  pub size : r.len ≡ spec.len
