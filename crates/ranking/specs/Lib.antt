-- Candidates in order of cost, as the program keeps them, in the order of reading.
pub mod Keys
pub mod Next
pub mod Cheapest
pub mod Place
pub mod Grid
