-- What a combination of the code stands for.
use Rattle.theory_rules.specs.Combining as spec
use Rattle.plain_search.specs.declared.combining.Combined.{Combined}

abbrev pub combined_of : Combined → spec.Combined
combined_of c = record { first = (c.first).now; second = (c.second).now; p = c.p; q = c.q; fact = c.fact }
