-- The printed texts of a ward, compared with the figures of its count.
pub mod SurplusLaw
