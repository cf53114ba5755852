mod List
