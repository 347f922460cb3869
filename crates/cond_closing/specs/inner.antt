pub mod SteadyLaws
